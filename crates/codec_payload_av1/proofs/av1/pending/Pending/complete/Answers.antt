use Rattle.std.proofs.Common.{◌≡◌, ◌+◌, ◌∙◌, ◌≤◌, ℕ, List, ◌∷◌, ◌++◌, [], rules, length, drop, false, sym, ap, cond, arith, append_assoc}
use Rattle.std.specs.Global.{Vec}
use Rattle.std.specs.Prelude.{bit_or}
use Rattle.std.proofs.lemmas.List.{length-append, length-drop, append-nil}
use Rattle.codec_payload_base.specs.Leb.{leb}
use Rattle.codec_payload_av1.specs.Av1Obu.{Obu, canonical, has_size, is_kept_type, view}
use Rattle.codec_payload_av1.proofs.Av1GoingOn.{going_on, unit_going_on, bare_parts, behind_room, canonical_parts}
use Rattle.codec_payload_av1.proofs.av1.pending.Pending.complete.Goals as goal
use Rattle.codec_payload_av1.proofs.av1.pending.Pending.complete.Goals.{Then-is_kept, In_ok-put_front, then-is_kept+in_ok-put_front+then-is_most+then-begun-len+in_ok-extend_from_slice, then-is_kept+in_ok-put_front+else-is_most+in_ok-extend_from_slice-2+in_ok-extend_from_slice-3, else-is_kept}

payload_within : (c : Then-is_kept) → length c.in-Some.begun.payload.now ≤ length c.self.inside.bytes.items
payload_within c =
    let o = view c.in-Some.begun in
    let none : has_size o.header ≡ false = search rules in
    let read = rw c.as_slice.ensures at c.in-Some.ensures in
    let parts = ap length (bare_parts c.args.self.now c.in-Some.field-0-1.now o read none) in
    let pending = ap length c.self.view_is in
    omega (arith, parts, pending, length-append (o.header ∷ o.extension) o.payload, length-drop c.self.inside.room c.self.inside.bytes.items)

pub overflow_add-size : goal.overflow_add-size
overflow_add-size c =
    omega (arith, payload_within c, c.self.inside.bytes.ok.0, c.self.inside.bytes.ok.1, c.self.inside.bytes.small)

pub overflow_add-begun : goal.overflow_add-begun
overflow_add-begun c =
    omega (arith, payload_within (goal.at.overflow_add-begun c).Then-is_kept, c.self.inside.bytes.ok.0, c.self.inside.bytes.ok.1, c.self.inside.bytes.small)

-- if the pending memory becomes the unit
placed : (out bytes end : List ℕ) (o : Obu) (room : ℕ) (front extended new : List ℕ) → drop room bytes ≡ (o.header ∷ o.extension) ++ o.payload → front ≡ out
    ++ (bit_or o.header 2 ∷ (o.extension ++ leb (length o.payload + length end)))
    → length o.payload + length front ≡ length bytes → extended ≡ bytes ++ end → new ≡ front ++ drop (length front) extended → new ≡ out ++ canonical (going_on o end)
placed out bytes end o room front extended new parts fronted fills more made =
    made ∙ ap (λ (t : List ℕ). front ++ drop (length front) t) more ∙ ap (λ (t : List ℕ). front ++ t) (behind_room bytes (o.header ∷ o.extension) o.payload end room (length front) parts fills)
    ∙ ap (λ (t : List ℕ). t ++ (o.payload ++ end)) fronted ∙ canonical_parts out o end

-- if it is copied
copied : (out end : List ℕ) (o : Obu) (front middle new : List ℕ) → front ≡ out ++ (bit_or o.header 2 ∷ (o.extension ++ leb (length o.payload + length end)))
    → middle ≡ front ++ o.payload → new ≡ middle ++ end → new ≡ out ++ canonical (going_on o end)
copied out end o front middle new fronted more made =
    made ∙ ap (λ (t : List ℕ). t ++ end) more ∙ append_assoc front o.payload end ∙ ap (λ (t : List ℕ). t ++ (o.payload ++ end)) fronted ∙ canonical_parts out o end

pub returns-clause-added : goal.returns-clause-added
returns-clause-added c = λ _.
    let o = view c.in-Some.begun in
    let none : has_size o.header ≡ false = search rules in
    let read = rw c.as_slice.ensures at c.in-Some.ensures in
    let parts = c.self.view_is ∙ bare_parts c.args.self.now c.in-Some.field-0-1.now o read none in
    let out = c.args.out.now.items in
    let end = c.args.end.now in
    let made : c.if-is_kept.out.items ≡ out ++ cond (is_kept_type o.header) (canonical (going_on o end)) [] =
    elim c.if-is_kept.branch [
      | then-is_kept+in_ok-put_front+then-is_most+then-begun-len+in_ok-extend_from_slice w ↦ rw (sym c.is_kept.ensures ∙ w.if-is_kept.true) (ap (λ (v : Vec ℕ). v.items) w.out-is
          ∙ placed out c.self.inside.bytes.items end o c.self.inside.room w.put_front.new.out.items w.extend_from_slice.new.self.items w.swap_behind.new.out.items
          parts w.in_ok-put_front.ensures.written (omega (
            arith,
            w.if-begun-len.true,
            w.len.ensures,
            w.len-then-is_most.ensures,
            c.self.inside.bytes.ok.0,
            w.put_front.new.out.ok.0,
          )) w.in_ok-extend_from_slice.ensures.items w.swap_behind.ensures)
      | then-is_kept+in_ok-put_front+else-is_most+in_ok-extend_from_slice-2+in_ok-extend_from_slice-3 w ↦ rw (sym c.is_kept.ensures ∙ w.if-is_kept.true) (ap (λ (v : Vec ℕ). v.items) w.out-is
          ∙ copied out end o w.put_front.new.out.items w.extend_from_slice-else-is_most.new.self.items w.extend_from_slice-else-is_most-2.new.self.items
          w.in_ok-put_front.ensures.written w.in_ok-extend_from_slice-2.ensures.items w.in_ok-extend_from_slice-3.ensures.items)
      | else-is_kept w ↦ rw (sym c.is_kept.ensures ∙ w.if-is_kept.false) (ap (λ (v : Vec ℕ). v.items) w.out-is ∙ sym (append-nil out))
    ] in
    (cond (is_kept_type o.header) (canonical (going_on o end)) [], unit_going_on c.args.self.now end c.in-Some.field-0-1.now o read none, made, c.clear.ensures)
