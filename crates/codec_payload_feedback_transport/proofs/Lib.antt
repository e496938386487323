mod SentLemmas
mod NumberingLemmas
