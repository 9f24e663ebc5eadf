pub mod Median
-- The rule in force.
pub mod Judgment
pub mod Winner
pub mod Theorems
pub mod Raised
-- The majority gauge, kept for the theorem that its winner is the only winner by judgment.
pub mod Gauge
pub mod GaugeWinner
pub mod GaugeTheorems
pub mod GaugePanels
pub mod Panels
pub mod inner
