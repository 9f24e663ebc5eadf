pub mod LaneLaws
pub mod ListLaws
pub mod ValueLaws
pub mod GateLaws
pub mod StepLaws
pub mod RunLaws
pub mod Examples
