mod OwnSaid
mod Positions
mod RankText
