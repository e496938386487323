mod BetweenLemmas
mod SenderLemmas
mod OwnLemmas
mod OwnPictureLemmas
