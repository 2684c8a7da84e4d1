pub mod CountedGaps
pub mod FeedsKeepLittle
pub mod FeedsPaid
pub mod GapsSeen
pub mod LineParts
pub mod RowFeeds
