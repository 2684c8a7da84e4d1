mod EntryLemmas
mod NulLemmas
mod NumberLemmas
