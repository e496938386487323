use Rattle.std.proofs.Common.{◌≡◌, ◌∙◌, ap, sym, subst, refl, map}
use Rattle.codec_payload_codec.specs.Depacketizers.{DepacketizerState, depacketizer_state_of, is_built_in_depacketizer}
use Rattle.codec_payload_codec.proofs.CodecLemmas.{own_depacketizer}
use Rattle.codec_payload_buffer.specs.Buffer.{state_of}
use Rattle.codec_payload_buffer.specs.Held.{Held, held_of}
use Rattle.codec_payload_buffer.specs.Pairs.{stored}
use Rattle.codec_payload_buffer.specs.Steps.{IsArrived, IsSound, State, arrived_by, placed_at, pushed}
use Rattle.codec_payload_metadata.specs.declared.meta.RtpMeta.{RtpMeta}
use Rattle.codec_payload_buffer.proofs.PairLemmas.{pushed_sound, stored_twice}
use Rattle.codec_payload_buffer.proofs.buffer.DepacketizingBuffer.store_two.Goals as goal

pub invariant_of-self-2 : goal.invariant_of-self-2
invariant_of-self-2 g c =
    let s : State = state_of c.self.inside in
    let p : Held = held_of c.in_ok-first.first in
    let q : Held = held_of c.in_ok-second.second in
    let s1 : State = stored s (map held_of c.store_entry-one.new.packets.items) c.store_entry-one.result.1 in
    let one : s1 ≡ pushed s p = c.store_entry-one.ensures.pushes s (ap (map held_of) (sym c.reserve.ensures.items), refl, refl) in
    let two = c.store_entry-two.ensures.pushes s1 (refl, sym c.or-self-inside.ensures, refl) in
    let whole = stored_twice s p q _ _ _ _ _ _ _ _ c.or-self-inside.ensures c.is_marked-self-inside.ensures c.or-self-inside-2.ensures c.is_marked-self-inside-2.ensures one two in
    record {
      sound = subst IsSound (sym whole) (pushed_sound (pushed s p) q (pushed_sound s p c.self.invariant.sound));
      least = c.self.invariant.least;
      most = c.self.invariant.most;
      told = c.store_entry-two.ensures.told;
      frames_are = c.store_entry-two.ensures.complete;
    }

pub returns-clause-ok : goal.returns-clause-ok
returns-clause-ok g c =
    let s : State = state_of c.self.inside in
    let p : Held = held_of c.in_ok-first.first in
    let q : Held = held_of c.in_ok-second.second in
    let s1 : State = stored s (map held_of c.store_entry-one.new.packets.items) c.store_entry-one.result.1 in
    let one : s1 ≡ pushed s p = c.store_entry-one.ensures.pushes s (ap (map held_of) (sym c.reserve.ensures.items), refl, refl) in
    let two = c.store_entry-two.ensures.pushes s1 (refl, sym c.or-self-inside.ensures, refl) in
    let whole = stored_twice s p q _ _ _ _ _ _ _ _ c.or-self-inside.ensures c.is_marked-self-inside.ensures c.or-self-inside-2.ensures c.is_marked-self-inside-2.ensures one two in
    let view : depacketizer_state_of c.self.inside.depacketizer ≡ c.args.self.now.depacketizer = ap (λ (x : State). x.depacketizer) c.self.view_is in
    let first : IsArrived c.args.self.now.depacketizer c.args.first.meta c.args.first.payload.items p =
    subst (λ (d : DepacketizerState). IsArrived d c.args.first.meta c.args.first.payload.items p) view c.in_ok-first.ensures.arrived in
    let second : IsArrived c.args.self.now.depacketizer c.args.second.meta c.args.second.payload.items q =
    subst (λ (d : DepacketizerState). IsArrived d c.args.second.meta c.args.second.payload.items q) view c.in_ok-second.ensures.arrived in (
      p,
      q,
      first,
      second,
      c.store_entry-one.ensures.placed s (ap (map held_of) (sym c.reserve.ensures.items), refl, refl)
          ∙ (ap (λ (m : RtpMeta). placed_at s m.seq_no.0) first.0 ∙ ap (λ (x : State). placed_at x c.args.first.meta.seq_no.0) c.self.view_is),
      c.store_entry-two.ensures.placed s1 (refl, sym c.or-self-inside.ensures, refl)
          ∙ (ap (λ (m : RtpMeta). placed_at s1 m.seq_no.0) second.0
          ∙ (ap (λ (x : State). placed_at x c.args.second.meta.seq_no.0) one ∙ ap (λ (x : State). placed_at (pushed x p) c.args.second.meta.seq_no.0) c.self.view_is)),
      whole ∙ ap (λ (x : State). pushed (pushed x p) q) c.self.view_is,
    )

pub returns-clause-own : goal.returns-clause-own
returns-clause-own g c = λ other.
    let s : State = state_of c.self.inside in
    let p : Held = held_of c.in_ok-first.first in
    let q : Held = held_of c.in_ok-second.second in
    let s1 : State = stored s (map held_of c.store_entry-one.new.packets.items) c.store_entry-one.result.1 in
    let one : s1 ≡ pushed s p = c.store_entry-one.ensures.pushes s (ap (map held_of) (sym c.reserve.ensures.items), refl, refl) in
    let two = c.store_entry-two.ensures.pushes s1 (refl, sym c.or-self-inside.ensures, refl) in
    let whole = stored_twice s p q _ _ _ _ _ _ _ _ c.or-self-inside.ensures c.is_marked-self-inside.ensures c.or-self-inside-2.ensures c.is_marked-self-inside-2.ensures one two in
    let view : depacketizer_state_of c.self.inside.depacketizer ≡ c.args.self.now.depacketizer = ap (λ (x : State). x.depacketizer) c.self.view_is in
    let b = own_depacketizer c.self.inside.depacketizer (ap is_built_in_depacketizer view ∙ other) in
    let first : p ≡ arrived_by (g.B.Depacketizer.is_head b.0) (g.B.Depacketizer.is_tail b.0) c.args.first.meta c.args.first.payload.items = c.in_ok-first.ensures.own b.0 b.1 in
    let second : q ≡ arrived_by (g.B.Depacketizer.is_head b.0) (g.B.Depacketizer.is_tail b.0) c.args.second.meta c.args.second.payload.items = c.in_ok-second.ensures.own b.0 b.1 in (
      b.0,
      whole ∙ (ap (λ (x : State). pushed (pushed x p) q) c.self.view_is
          ∙ (ap (λ (x : Held). pushed (pushed c.args.self.now x) q) first
          ∙ ap (λ (x : Held). pushed (pushed c.args.self.now (arrived_by (g.B.Depacketizer.is_head b.0) (g.B.Depacketizer.is_tail b.0) c.args.first.meta c.args.first.payload.items)) x) second)),
    )
