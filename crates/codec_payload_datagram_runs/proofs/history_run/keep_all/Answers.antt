use Rattle.std.proofs.Common.{◌≡◌, ◌∙◌, ℕ, zero, suc, ◌+◌, ◌<◌, List, [], ◌∷◌, ap, sym, subst, inl, inr, length, drop, get_or, arith}
use Rattle.std.specs.Global.{Vec}
use Rattle.std.proofs.lemmas.List.{length-map}
use Rattle.codec_payload_sending_history.specs.Histories.{IsFault, Keeps}
use Rattle.codec_payload_datagram_runs.specs.HistoryRuns.{IsPacket, KeepsAll, KeepsOne, KeepsSome}
use Rattle.codec_payload_datagram_runs.specs.WireRuns.{bytes_in}
use Rattle.codec_payload_datagram_runs.proofs.history_run.keep_all.Goals as goal

-- the bytes of the item at an index, and of those after it
items_from : (vs : List (Vec ℕ)) (i : ℕ) (v : Vec ℕ) → i < length vs → v ≡ get_or vs i v → drop i (bytes_in vs) ≡ v.items ∷ drop (i + 1) (bytes_in vs)
items_from [] i v within is = absurd (omega (arith, within))
items_from (x ∷ vs) zero v within is = ap (λ (y : Vec ℕ). y.items ∷ bytes_in vs) (sym is)
items_from (x ∷ vs) (suc i) v within is =
    let next : suc (i + 1) ≡ suc i + 1 = omega arith in
    items_from vs i v (omega (arith, within)) is ∙ ap (λ (n : ℕ). v.items ∷ drop n (x.items ∷ bytes_in vs)) next

items_at : (vs : List (Vec ℕ)) (i : ℕ) (v : Vec ℕ) → i < length vs → v ≡ get_or vs i v → get_or (bytes_in vs) i [] ≡ v.items
items_at [] i v within is = absurd (omega (arith, within))
items_at (x ∷ vs) zero v within is = ap (λ (y : Vec ℕ). y.items) (sym is)
items_at (x ∷ vs) (suc i) v within is = items_at vs i v (omega (arith, within)) is

pub loop-datagram-preserved : goal.loop-datagram-preserved
loop-datagram-preserved c =
    let is = items_from c.args.datagrams.now c.loop-datagram.datagram-index c.datagram-item.result c.loop-datagram-test.true c.datagram-item.is in
    let keeps : Keeps c.loop-datagram.history c.datagram-item.result.items c.in-Ok.field-0 c.keep.new.self = rw c.deref.ensures.value at c.in-Ok.ensures.ok in
    let kept : KeepsOne c.loop-datagram.history c.datagram-item.result.items c.keep.new.self = (c.in-Ok.field-0, keeps) in
    record {
      keeps = λ t later. c.loop-datagram.invariant.keeps t (subst (λ (ds : List (List ℕ)). KeepsAll c.loop-datagram.history ds t) (sym is) (c.keep.new.self, kept, later));
      stops = λ t later. c.loop-datagram.invariant.stops t (subst (λ (ds : List (List ℕ)). KeepsSome c.loop-datagram.history ds t) (sym is) (inr (c.keep.new.self, kept, later)));
    }

pub returns-in-Err-OutOfMemory-clause-err : goal.returns-in-Err-OutOfMemory-clause-err
returns-in-Err-OutOfMemory-clause-err c =
    let is = items_from c.args.datagrams.now c.loop-datagram.datagram-index c.datagram-item.result c.loop-datagram-test.true c.datagram-item.is in
    c.loop-datagram.invariant.stops c.keep.new.self
    (subst (λ (ds : List (List ℕ)). KeepsSome c.loop-datagram.history ds c.keep.new.self) (sym is) (inl c.in-Err-OutOfMemory.ensures.err))

-- each datagram is a packet
pub unreachable-requires : goal.unreachable-requires
unreachable-requires c =
    let is = items_at c.args.datagrams.now c.loop-datagram.datagram-index c.datagram-item.result c.loop-datagram-test.true c.datagram-item.is in
    let packet : IsPacket c.datagram-item.result.items =
    subst IsPacket is (c.requires c.loop-datagram.datagram-index [] (omega (arith, c.loop-datagram-test.true, length-map c.args.datagrams.now (λ (v : Vec ℕ). v.items)))) in
    let fault : IsFault c.datagram-item.result.items c.in-Err-Rtp.field-0 = rw c.deref.ensures.value at c.in-Err-Rtp.ensures.fault in
    let named = rw c.in-Err-Rtp.field-0-is at fault in
    absurd (cc (packet.1, named))
