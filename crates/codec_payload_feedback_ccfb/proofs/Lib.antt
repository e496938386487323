mod CcfbLemmas
mod CcfbRoundTrip
