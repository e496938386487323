mod AgeLemmas
