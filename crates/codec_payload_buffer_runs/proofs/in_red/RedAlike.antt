-- Two runs with RED that push the same packets before each pop are answered the same.
use Rattle.std.proofs.Common.{◌∙◌, refl, sym, ap, ℕ, Bool, false, List, [], ◌∷◌, map}
use Rattle.codec_payload_codec.specs.Depacketizers.{DepacketizerKind}
use Rattle.codec_payload_buffer.specs.Held.{Held}
use Rattle.codec_payload_metadata.specs.declared.meta.RtpMeta.{RtpMeta}
use Rattle.codec_payload_buffer_runs.proofs.order.AlikeLemmas.{chains_same}
use Rattle.codec_payload_buffer_runs.proofs.in_red.RedLogs as logs
use Rattle.codec_payload_buffer_runs.proofs.order.SafetyLemmas.{AllSent, fresh_beyond}
use Rattle.codec_payload_buffer_runs.proofs.order.TurnLemmas.{Setting, Chain, IsReady, chain_of}
use Rattle.codec_payload_buffer_runs.proofs.units.UnitRows.{IsFaithful}
use Rattle.codec_payload_buffer_runs.specs.LawfulUnits.{AllLawful}
use Rattle.codec_payload_buffer_runs.specs.Log.{begun}
use Rattle.codec_payload_payloader.specs.Packets.{Packet, AreNumbered}
use Rattle.codec_payload_buffer_runs.specs.RedOrder.{bare_block, ran_from, OnlySetsCountInRed}
use Rattle.codec_payload_buffer_runs.specs.RedPromises.{RedRan, pushes_of}
use Rattle.codec_payload_buffer_runs.specs.RedSchedule.{meta_of_block}
use Rattle.codec_payload_buffer_runs.specs.RunOrder.{answer_with}
use Rattle.codec_payload_buffer_runs.specs.SentStream.{SentUnit, packets_of}

-- the packets sent do not depend on how that is shown
as_sent : (known : ℕ → Packet → RtpMeta → Type 0) (clock_rate first : ℕ) (kind : DepacketizerKind) (f g : IsFaithful known clock_rate kind) (splits : Bool)
    (units : List SentUnit) (l m : AllLawful kind splits units)
    (n o : AreNumbered first (packets_of units)) (ps : List Held) → AllSent known clock_rate first kind f splits units l n ps → AllSent known clock_rate first kind g splits units m o ps
as_sent known clock_rate first kind f g splits units l m n o [] all = tt
as_sent known clock_rate first kind f g splits units l m n o (p ∷ ps) all = (all.0, as_sent known clock_rate first kind f g splits units l m n o ps all.1)

pub red_sets_count : OnlySetsCountInRed
red_sets_count with samples before all_steps other_steps sends other_sends pops other_pops after other_after run other_run is other_is packets log other same =
    let r : RedRan = ran_from with samples before all_steps sends pops after in
    let q : RedRan = ran_from with samples before other_steps other_sends other_pops other_after in
    let s = before.plain in
    let c : Setting = logs.log_setting r run is log in
    let e : Setting = logs.red_setting q other_run other_is log.released.units log.lawful (log.released.packets ∙ packets) in
    let d : Setting = record c { known = e.known; faithful = e.faithful } in
    let beyond = fresh_beyond d.known d.clock_rate d.first d.kind d.faithful d.splits d.units d.lawful d.numbered s.buffer is.unused.nothing_held is.unused.no_cutoff is.unused.alike in
    let ready : IsReady c 0 s.buffer = logs.log_ready r run is log in
    let other_ready : IsReady d 0 s.buffer = record { beyond = beyond; few = ready.few } in
    let other_chain : Chain d s.buffer other.turns other.end =
    chain_of d other_steps (pushes_of q) (λ place k dep at reads. as_sent d.known d.clock_rate d.first d.kind e.faithful d.faithful d.splits d.units e.lawful
    d.lawful e.numbered d.numbered (pushes_of q place k dep)
    (logs.named_sent q other_run other_is log.released.units log.lawful (log.released.packets ∙ packets) place k dep at reads))
    other_steps 0 (begun s.buffer) other.turns other.end refl 0 beyond (record { sent = tt; now = refl }) other.is_log in
    ap (map (answer_with bare_block)) (sym log.answers)
    ∙ chains_same false c d.known d.faithful (λ p. bare_block (meta_of_block 0 s.payloading.clock_rate with.receiver.primary_pt false p))
    (λ k p m push. ap bare_block push.told) (λ k p m push. ap bare_block push.told)
    0 0 s.buffer s.buffer log.turns other.turns log.end other.end ready other_ready refl (logs.log_chain r run is log) other_chain same
    ∙ ap (map (answer_with bare_block)) other.answers
