mod ChoiceLemmas
