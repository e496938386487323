use Rattle.codec_payload_edges.proofs.BetweenLemmas.{are_between_pictures}
use Rattle.codec_payload_edges.proofs.SenderLemmas.{carry_no_media, finds_nothing}
use Rattle.codec_payload_edges.proofs.theorems.between_pictures_is_no_media.Goals as goal

pub returns-clause-found : goal.returns-clause-found
returns-clause-found c = are_between_pictures

pub returns-clause-no_media : goal.returns-clause-no_media
returns-clause-no_media c = carry_no_media

pub returns-clause-nothing : goal.returns-clause-nothing
returns-clause-nothing c = finds_nothing
