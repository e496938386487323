use Rattle.codec_payload_stream_edges.proofs.AgreementLemmas.{follows_what_is_stored}
use Rattle.codec_payload_stream_edges.proofs.FittingLemmas.{rules_fit}
use Rattle.codec_payload_stream_edges.proofs.theorems.followed_packets_are_the_stored_ones.Goals as goal

pub returns-clause-same : goal.returns-clause-same
returns-clause-same c = follows_what_is_stored

pub returns-clause-fit : goal.returns-clause-fit
returns-clause-fit c = rules_fit
