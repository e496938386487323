mod ExchangeLemmas
mod TimeLemmas
mod XrGrammar
mod XrLemmas
mod XrRoundTrip
