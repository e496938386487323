use Rattle.std.proofs.Common.{◌≡◌, ◌∙◌, ◌≤◌, ◌&&◌, ℕ, Bool, true, false, length, nat_le, refl, subst, sym, arith}
use Rattle.std.proofs.lemmas.Bool.Decides.{nat_tests}
use Rattle.codec_payload_c_receiving.specs.Beginnings.{SetsFeedbackIf, name_fits}
use Rattle.codec_payload_c.proofs.beginnings.cpay_session_settings_feedback.Goals as goal

short : (n : ℕ) → (nat_le 1 n && nat_le n 255) ≡ true → n ≤ 255
short n fits = grind (arith, nat_tests)

pub set_name-requires : goal.set_name-requires
set_name-requires c = short (length c.args.cname.now) (sym c.name_fits.ensures ∙ c.if-not-name_fits.false)

pub returns-then-not-name_fits : goal.returns-then-not-name_fits
returns-then-not-name_fits c =
    let no : name_fits c.args.cname.now ≡ false = sym c.name_fits.ensures ∙ c.if-not-name_fits.true in
    subst (λ (b : Bool). SetsFeedbackIf b c.args.ssrc c.args.cname.now 37 c.args.settings.now c.args.settings.now) (sym no) (refl, refl)

pub returns : goal.returns
returns c =
    let yes : name_fits c.args.cname.now ≡ true = sym c.name_fits.ensures ∙ c.if-not-name_fits.false in
    subst (λ (b : Bool). SetsFeedbackIf b c.args.ssrc c.args.cname.now 0 c.args.settings.now c.set_name.new.settings) (sym yes) (refl, c.set_name.ensures)
