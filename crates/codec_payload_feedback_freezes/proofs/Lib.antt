mod FreezeLemmas
