pub mod FeedbackLemmas
