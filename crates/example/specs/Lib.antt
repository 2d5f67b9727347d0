pub mod LastFit
pub mod PeriodFirst
