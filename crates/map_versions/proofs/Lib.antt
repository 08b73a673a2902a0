pub mod BetweenLaws
pub mod NodeLaws
pub mod ForestLaws
pub mod RootLaws
