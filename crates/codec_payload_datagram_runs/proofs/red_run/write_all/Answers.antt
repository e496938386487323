use Rattle.std.proofs.Common.{◌≡◌, ◌∙◌, ℕ, zero, suc, ◌+◌, ◌++◌, ◌<◌, List, [], ◌∷◌, ap, refl, sym, subst, inl, inr, length, drop, get_or, arith, append_assoc, append-nil, rules}
use Rattle.std.specs.Global.{Vec}
use Rattle.std.proofs.lemmas.List.{drop_all, length-map, map-append}
use Rattle.codec_payload_codec.proofs.AnswerLemmas.{on_err}
use Rattle.codec_payload_sending_red.specs.Writers.{IsFault, Writes}
use Rattle.codec_payload_sending_red.specs.declared.red_writer.RedWriteError.TheVariants as faults
use Rattle.codec_payload_datagram_runs.specs.HistoryRuns.{IsPacket}
use Rattle.codec_payload_datagram_runs.specs.RedRuns.{WritesAll, WritesSome}
use Rattle.codec_payload_datagram_runs.specs.WireRuns.{bytes_in}
use Rattle.codec_payload_datagram_runs.proofs.red_run.write_all.Goals as goal

abbrev bytes_of : Vec ℕ → List ℕ
bytes_of v = v.items

-- the bytes of the item at an index, and of those after it
items_from : (vs : List (Vec ℕ)) (i : ℕ) (v : Vec ℕ) → i < length vs → v ≡ get_or vs i v → drop i (bytes_in vs) ≡ v.items ∷ drop (i + 1) (bytes_in vs)
items_from [] i v within is = absurd (omega (arith, within))
items_from (x ∷ vs) zero v within is = ap (λ (y : Vec ℕ). y.items ∷ bytes_in vs) (sym is)
items_from (x ∷ vs) (suc i) v within is =
    let next : suc (i + 1) ≡ suc i + 1 = omega arith in
    items_from vs i v (omega (arith, within)) is ∙ ap (λ (n : ℕ). v.items ∷ drop n (x.items ∷ bytes_in vs)) next

items_at : (vs : List (Vec ℕ)) (i : ℕ) (v : Vec ℕ) → i < length vs → v ≡ get_or vs i v → get_or (bytes_in vs) i [] ≡ v.items
items_at [] i v within is = absurd (omega (arith, within))
items_at (x ∷ vs) zero v within is = ap (λ (y : Vec ℕ). y.items) (sym is)
items_at (x ∷ vs) (suc i) v within is = items_at vs i v (omega (arith, within)) is

pub loop-datagram-init : goal.loop-datagram-init
loop-datagram-init c = record {
  done = [];
  written = sym (append-nil (bytes_in c.args.written.now.items));
  writes = λ outs t later. later;
  stops = λ t later. later;
}

pub loop-datagram-preserved : goal.loop-datagram-preserved
loop-datagram-preserved c =
    let is = items_from c.args.datagrams.now c.loop-datagram.datagram-index c.datagram-item.result c.loop-datagram-test.true c.datagram-item.is in
    let out : List ℕ = c.write.new.out.items in
    let wrote : Writes c.loop-datagram.writer c.datagram-item.result.items out c.write.new.self = rw c.deref.ensures.value at c.in-Ok.ensures.ok in
    let done : List (List ℕ) = c.loop-datagram.invariant.done in
    let gained : c.push.new.self.items ≡ c.loop-datagram.written.items ++ c.write.new.out ∷ [] = search rules in
    record {
      done = done ++ out ∷ [];
      written = ap bytes_in gained ∙ (map-append bytes_of c.loop-datagram.written.items (c.write.new.out ∷ [])
          ∙ (ap (λ (xs : List (List ℕ)). xs ++ out ∷ []) c.loop-datagram.invariant.written ∙ append_assoc (bytes_in c.args.written.now.items) done (out ∷ [])));
      writes = λ outs t later.
          subst (λ (os : List (List ℕ)). WritesAll c.args.writer.now (bytes_in c.args.datagrams.now) os t) (sym (append_assoc done (out ∷ []) outs))
          (c.loop-datagram.invariant.writes (out ∷ outs) t
          (subst (λ (ds : List (List ℕ)). WritesAll c.loop-datagram.writer ds (out ∷ outs) t) (sym is) (out, outs, c.write.new.self, refl, wrote, later)));
      stops = λ t later. c.loop-datagram.invariant.stops t (subst (λ (ds : List (List ℕ)). WritesSome c.loop-datagram.writer ds t) (sym is) (inr (out, c.write.new.self, wrote, later)));
    }

pub returns-in-Err-OutOfMemory-clause-err : goal.returns-in-Err-OutOfMemory-clause-err
returns-in-Err-OutOfMemory-clause-err c =
    let is = items_from c.args.datagrams.now c.loop-datagram.datagram-index c.datagram-item.result c.loop-datagram-test.true c.datagram-item.is in
    let fault : IsFault c.loop-datagram.writer c.datagram-item.result.items c.in-Err-OutOfMemory.field-0 c.write.new.self = rw c.deref.ensures.value at c.in-Err-OutOfMemory.ensures.fault in
    let named : IsFault c.loop-datagram.writer c.datagram-item.result.items faults.OutOfMemory c.write.new.self = rw c.in-Err-OutOfMemory.field-0-is at fault in
    c.loop-datagram.invariant.stops c.write.new.self
    (subst (λ (ds : List (List ℕ)). WritesSome c.loop-datagram.writer ds c.write.new.self) (sym is) (inl named))

-- there was no memory for the place of a datagram
pub returns-in_err-reserve-clause-err : goal.returns-in_err-reserve-clause-err
returns-in_err-reserve-clause-err c =
    let is = items_from c.args.datagrams.now c.loop-datagram.datagram-index c.datagram-item.result c.loop-datagram-test.true c.datagram-item.is in
    on_err c.from_residual.result (c.loop-datagram.invariant.stops c.loop-datagram.writer
    (subst (λ (ds : List (List ℕ)). WritesSome c.loop-datagram.writer ds c.loop-datagram.writer) (sym is) (inl (inl refl))))

-- each datagram is a packet
pub unreachable-requires : goal.unreachable-requires
unreachable-requires c =
    let is = items_at c.args.datagrams.now c.loop-datagram.datagram-index c.datagram-item.result c.loop-datagram-test.true c.datagram-item.is in
    let packet : IsPacket c.datagram-item.result.items =
    subst IsPacket is (c.requires c.loop-datagram.datagram-index [] (omega (arith, c.loop-datagram-test.true, length-map c.args.datagrams.now bytes_of))) in
    let fault : IsFault c.loop-datagram.writer c.datagram-item.result.items c.in-Err-Rtp.field-0 c.write.new.self = rw c.deref.ensures.value at c.in-Err-Rtp.ensures.fault in
    let named = rw c.in-Err-Rtp.field-0-is at fault in
    absurd (cc (packet.1, named.0))

-- at the end no datagram is left
pub returns-clause-ok : goal.returns-clause-ok
returns-clause-ok c =
    let none : drop c.loop-datagram.datagram-index (bytes_in c.args.datagrams.now) ≡ [] =
    drop_all c.loop-datagram.datagram-index (bytes_in c.args.datagrams.now) (omega (arith, c.loop-datagram-test.false, length-map c.args.datagrams.now bytes_of)) in
    let done : List (List ℕ) = c.loop-datagram.invariant.done in
    let writes : WritesAll c.args.writer.now (bytes_in c.args.datagrams.now) (done ++ []) c.loop-datagram.writer =
    c.loop-datagram.invariant.writes [] c.loop-datagram.writer (subst (λ (ds : List (List ℕ)). WritesAll c.loop-datagram.writer ds [] c.loop-datagram.writer) (sym none) (refl, refl)) in
    (done, subst (λ (os : List (List ℕ)). WritesAll c.args.writer.now (bytes_in c.args.datagrams.now) os c.loop-datagram.writer) (append-nil done) writes, c.loop-datagram.invariant.written)
