use Rattle.std.proofs.Common.{rules, ◌≡◌, ◌+◌, ◌-◌, ◌%◌, ◌∙◌, ℕ, false, true, sym, subst, ap, length, arith}
use Rattle.codec_payload_sending_forward.specs.Numbers.{HasNumber, Numbers, is_too_old, next_number, source_at}
use Rattle.codec_payload_sending_forward.proofs.MapLemmas.{has_number, has_place, true_false}
use Rattle.codec_payload_sending_forward.proofs.renumbering.Renumbering.source_of.Goals.{then-behind-eq0-via-then-behind-eq0, then-behind-eq0-via-else-behind-eq0+then-given-behind}
use Rattle.codec_payload_sending_forward.proofs.renumbering.Renumbering.source_of.Goals as goal

pub returns-then-behind-eq0-clause-none : goal.returns-then-behind-eq0-clause-none
returns-then-behind-eq0-clause-none c = λ number h.
    let s = c.self.inside in
    let m : Numbers = record { offset = s.offset; first = s.first; highest = s.highest; left_out = s.left_out.items } in
    let following : c.next_number.result ≡ next_number m = subst (λ (x : Numbers). c.next_number.result ≡ next_number x) (sym c.self.view_is) c.next_number.ensures in
    let behind : c.from-behind.result ≡ (c.next_number.result + (65536 - c.args.sent)) % 65536 = omega arith in
    let p = has_place m c.next_number.result c.args.sent c.from-behind.result c.self.invariant following behind number (subst (λ (x : Numbers). HasNumber x c.args.sent number) (sym c.self.view_is) h) in
    elim c.then-behind-eq0.branch [
      | then-behind-eq0-via-then-behind-eq0 w ↦ omega (arith, p.some, w.if-behind-eq0.true)
      | then-behind-eq0-via-else-behind-eq0+then-given-behind w ↦ omega (arith, p.few, w.if-given-behind.true)
    ]

pub returns-then-is_too_old-clause-none : goal.returns-then-is_too_old-clause-none
returns-then-is_too_old-clause-none c = λ number h.
    let s = c.self.inside in
    let m : Numbers = record { offset = s.offset; first = s.first; highest = s.highest; left_out = s.left_out.items } in
    let following : c.next_number.result ≡ next_number m = subst (λ (x : Numbers). c.next_number.result ≡ next_number x) (sym c.self.view_is) c.next_number.ensures in
    let behind : c.from-behind.result ≡ (c.next_number.result + (65536 - c.args.sent)) % 65536 = omega arith in
    let there : HasNumber m c.args.sent number = subst (λ (x : Numbers). HasNumber x c.args.sent number) (sym c.self.view_is) h in
    let p = has_place m c.next_number.result c.args.sent c.from-behind.result c.self.invariant following behind number there in
    let place : c.source_at-number.result ≡ number = place_is m c.len.result c.from-behind.result c.source_at-number.result number (omega arith) c.source_at-number.ensures p.at in
    let old : is_too_old m number ≡ true = ap (is_too_old m) (sym place) ∙ (ap (λ (x : Numbers). is_too_old x c.source_at-number.result) c.self.view_is ∙ (sym c.is_too_old.ensures ∙ search rules)) in
    true_false (sym old ∙ there.young)
  where
    place_is : (m : Numbers) (len behind found number : ℕ) → len ≡ length m.left_out → found ≡ source_at (m.highest - len - (behind - 1)) m.left_out
        → source_at (m.highest - length m.left_out - (behind - 1)) m.left_out ≡ number → found ≡ number
    place_is m len behind found number e f g = f ∙ (ap (λ (n : ℕ). source_at (m.highest - n - (behind - 1)) m.left_out) e ∙ g)

pub returns-clause-some : goal.returns-clause-some
returns-clause-some c =
    let s = c.self.inside in
    let m : Numbers = record { offset = s.offset; first = s.first; highest = s.highest; left_out = s.left_out.items } in
    let following : c.next_number.result ≡ next_number m = subst (λ (x : Numbers). c.next_number.result ≡ next_number x) (sym c.self.view_is) c.next_number.ensures in
    let behind : c.from-behind.result ≡ (c.next_number.result + (65536 - c.args.sent)) % 65536 = omega arith in
    let len : c.len.result ≡ length m.left_out = omega arith in
    let at : c.source_at-number.result ≡ source_at (m.highest - length m.left_out - (c.from-behind.result - 1)) m.left_out =
    c.source_at-number.ensures ∙ ap (λ (n : ℕ). source_at (m.highest - n - (c.from-behind.result - 1)) m.left_out) len in
    let young : is_too_old m c.source_at-number.result ≡ false = ap (λ (x : Numbers). is_too_old x c.source_at-number.result) c.self.view_is ∙ (sym c.is_too_old.ensures ∙ search rules) in
    subst (λ (x : Numbers). HasNumber x c.args.sent c.source_at-number.result) c.self.view_is
    (has_number m c.next_number.result c.args.sent c.from-behind.result c.self.invariant following behind c.source_at-number.result (omega arith)
    (omega (arith, c.if-behind-eq0.false)) (omega (arith, c.if-given-behind.false, len)) at young)
