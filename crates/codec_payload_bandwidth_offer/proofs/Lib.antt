mod JudgeLemmas
