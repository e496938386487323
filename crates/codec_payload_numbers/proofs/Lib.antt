pub mod NotedLemmas
pub mod NumbersLemmas
pub mod SeenLemmas
pub mod TimesLemmas
