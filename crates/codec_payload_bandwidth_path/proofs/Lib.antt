mod DepartureLemmas
mod RunLemmas
