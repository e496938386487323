use Rattle.std.proofs.Common.{◌≡◌, ◌∙◌, refl, Option, Some, None}
use Rattle.std.specs.Prelude.{option_map}
use Rattle.std.proofs.lemmas.Iterator.Consumers.{nth_from_yields_List, YieldsList-from_first}
use Rattle.codec_payload_core.specs.declared.interface.TelephoneEvent.{TelephoneEvent}
use Rattle.codec_payload_c_packets.proofs.tele.report_at.Goals as goal

same : (o : Option TelephoneEvent) → o ≡ option_map (λ e. e) o
same None = refl
same (Some e) = refl

pub returns : goal.returns
returns c = same c.nth.result ∙ nth_from_yields_List c.nth.result c.nth.new.self c.args.index c.nth.ensures.ran (YieldsList-from_first (λ e. e) (λ events. events) c.args.reports.now refl)
