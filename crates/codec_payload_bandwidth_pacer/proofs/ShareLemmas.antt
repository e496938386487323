-- Retransmissions are a share of what is sent: by induction on the calls.
use Rattle.std.specs.Prelude.{if◌then◌else◌}
use Rattle.std.proofs.Common.{◌≡◌, ◌∙◌, ℕ, ◌+◌, ◌-◌, ◌*◌, ◌^◌, ◌≤◌, ◌<◌, min, max, Bool, true, false, List, [], ◌∷◌, Option, Some, None, Err, refl, sym, ap, subst, arith, nat_le, nat_lt}
use Rattle.std.proofs.Math.Nat.{mul-le-mul_left}
use Rattle.std.proofs.lemmas.Bool.Decides.{nat_tests}
use Rattle.codec_payload_bandwidth_pacer.specs.declared.resends.ResendRefused.TheVariants.{TooSoon, Share}
use Rattle.codec_payload_bandwidth_pacer.specs.declared.resends.ResendSettings.{ResendSettings}
use Rattle.codec_payload_bandwidth_pacer.specs.Resending.{Limit, answer_by, bounded_credit, free_place, half_of, is_held, new_limit, next_half, passed, recent, resent_at, restarted, with_held, with_sent}
use Rattle.codec_payload_bandwidth_pacer.specs.ResendRuns.{Call, Resent, ResendsAreShared, after_calls, resend, resent_by, resent_bytes, resent_of, sent, sent_in, sent_since, time_of, with_resent}

-- ---- what stays

-- a fact of all that time can leave
by_time : (P : Limit → Type 0) (l : Limit) (b c : Bool) → (b ≡ true → P l) → (b ≡ false → c ≡ true → P (next_half l)) → (b ≡ false → c ≡ false → P (restarted l))
    → P (if b then l else (if c then next_half l else restarted l))
by_time P l true c same next start = same refl
by_time P l false true same next start = next refl refl
by_time P l false false same next start = start refl refl

-- the time, the settings, and a credit that does not rise
pub record Passes (l m : Limit) (now : ℕ) : Type 0 where
  pub at : m.at ≡ max l.at now
  pub settings : m.settings ≡ l.settings
  pub credit : m.credit ≤ l.credit
  pub held : m.held ≡ l.held

pub passes : (now : ℕ) (l : Limit) → Passes l (passed now l) now
passes now l =
    by_time (λ m. Passes l m now) (record l { at = max l.at now })
    (nat_lt (max l.at now - l.began) (half_of l.settings)) (nat_lt ((max l.at now - l.began) - half_of l.settings) (half_of l.settings))
    (λ _. record { at = refl; settings = refl; credit = omega arith; held = refl })
    (λ _ _. record { at = refl; settings = refl; credit = omega arith; held = refl })
    (λ _ _. record { at = refl; settings = refl; credit = omega arith; held = refl })

-- ---- the credit

-- after a request
resent_by_case : (number size round_trip bytes bound : ℕ) (l : Limit) (place : Option ℕ) (r : Resent) (rs : List Resent) (soon spent : Bool)
    → r.size ≡ size → (spent ≡ false → size * 1000 ≤ l.credit) → resent_bytes rs * 1000 + l.credit ≤ bound
    → resent_bytes (with_resent (if soon then Err TooSoon else (if spent then Err Share else answer_by place)) r rs) * 1000
    + (if soon then l else (if spent then l else with_held number size round_trip place l)).credit ≤ bound
resent_by_case number size round_trip bytes bound l place r rs true spent is enough h = h
resent_by_case number size round_trip bytes bound l place r rs false true is enough h = h
resent_by_case number size round_trip bytes bound l None r rs false false is enough h = h
resent_by_case number size round_trip bytes bound l (Some p) r rs false false is enough h = omega (arith, is, enough refl, h)

lt_false : (m n : ℕ) → nat_lt m n ≡ false → n ≤ m
lt_false m n is = grind (arith, nat_tests)

lt_true : (m n : ℕ) → nat_lt m n ≡ true → m < n
lt_true m n is = grind (arith, nat_tests)

-- the settings stay
held_settings : (number size round_trip : ℕ) (place : Option ℕ) (l : Limit) (soon spent : Bool)
    → (if soon then l else (if spent then l else with_held number size round_trip place l)).settings ≡ l.settings
held_settings number size round_trip place l true spent = refl
held_settings number size round_trip place l false true = refl
held_settings number size round_trip None l false false = refl
held_settings number size round_trip (Some p) l false false = refl

resent_settings : (number size round_trip : ℕ) (l : Limit) → (resent_at number size round_trip l).settings ≡ l.settings
resent_settings number size round_trip l =
    held_settings number size round_trip (free_place l.at l.held) l (is_held l.at number l.held) (nat_lt l.credit (size * 1000))

pub same_settings : (calls : List Call) (l : Limit) → (after_calls calls l).settings ≡ l.settings
same_settings [] l = refl
same_settings (sent now size ∷ before) l = (passes now (after_calls before l)).settings ∙ same_settings before l
same_settings (resend now number size round_trip ∷ before) l =
    resent_settings number size round_trip (passed now (after_calls before l)) ∙ (passes now (after_calls before l)).settings ∙ same_settings before l

-- the credit, and what was retransmitted, comes from the credit before and from what was sent
spends : (calls : List Call) (l : Limit) → resent_bytes (resent_by calls l) * 1000 + (after_calls calls l).credit ≤ l.credit + l.settings.share * sent_in calls
spends [] l = omega arith
spends (sent now size ∷ before) l =
    let m : Limit = after_calls before l in
    let is : (passed now m).settings.share ≡ l.settings.share = ap (λ (s : ResendSettings). s.share) ((passes now m).settings ∙ same_settings before l) in
    sends (resent_bytes (resent_by before l) * 1000) l.credit m.credit (passed now m).credit l.settings.share (passed now m).settings.share size (sent_in before)
    (with_sent size (passed now m)).credit is (omega arith) (passes now m).credit (spends before l)
  where
    sends : (resent credit before passed share same size bytes after : ℕ) → same ≡ share → after ≤ passed + same * size → passed ≤ before
        → resent + before ≤ credit + share * bytes → resent + after ≤ credit + share * (size + bytes)
    sends resent credit before passed share same size bytes after is more less h =
        let fits : after ≤ passed + share * size = subst (λ (n : ℕ). after ≤ passed + n * size) is more in omega (arith, fits, less, h)
spends (resend now number size round_trip ∷ before) l =
    let m : Limit = passed now (after_calls before l) in
    resent_by_case number size round_trip 0 (l.credit + l.settings.share * sent_in before) m (free_place m.at m.held)
    (resent_of (max (after_calls before l).at now) number size round_trip) (resent_by before l) (is_held m.at number m.held) (nat_lt m.credit (size * 1000))
    refl (lt_false m.credit (size * 1000)) (omega (arith, (passes now (after_calls before l)).credit, spends before l))

-- ---- what was sent lately

-- `s x`: the bytes that were sent from x on
pub record IsFresh (l : Limit) (s : ℕ → ℕ) : Type 0 where
  pub began : l.began ≤ l.at
  pub current : l.at < l.began + half_of l.settings
  pub now : l.sent_now ≤ s l.began
  pub both : l.sent_before + l.sent_now ≤ s (l.began - half_of l.settings)
  pub credit : l.credit ≤ l.settings.share * recent l

passed_fresh : (now : ℕ) (l : Limit) (s : ℕ → ℕ) → IsFresh l s → IsFresh (passed now l) s
passed_fresh now l s f =
    by_time (λ m. IsFresh m s) (record l { at = max l.at now })
    (nat_lt (max l.at now - l.began) (half_of l.settings)) (nat_lt ((max l.at now - l.began) - half_of l.settings) (half_of l.settings))
    (λ is. let below : max l.at now - l.began < half_of l.settings = lt_true _ _ is in
    record { began = omega (arith, f.began); current = omega (arith, below, f.began); now = f.now; both = f.both; credit = f.credit })
    (λ is no.
    let above : half_of l.settings ≤ max l.at now - l.began = lt_false _ _ is in
    let below : (max l.at now - l.began) - half_of l.settings < half_of l.settings = lt_true _ _ no in
    let back : (l.began + half_of l.settings) - half_of l.settings ≡ l.began = omega arith in
    record {
      began = omega (arith, above);
      current = omega (arith, below, above);
      now = omega arith;
      both = subst (λ (n : ℕ). l.sent_now + 0 ≤ s n) (sym back) (omega (arith, f.now));
      credit = subst (λ (n : ℕ). bounded_credit l.settings.share l.sent_now l.credit ≤ l.settings.share * n) (let e : l.sent_now ≡ l.sent_now + 0 = omega arith in e) (omega arith);
    })
    (λ is no. record { began = omega arith; current = omega arith; now = omega arith; both = omega arith; credit = omega arith })

-- a call at this time counts from x on
counts : (x t size : ℕ) → x ≤ t → (if nat_le x t then size else 0) ≡ size
counts x t size h = by_true (nat_le x t) (grind (arith, nat_tests))
  where
    by_true : (b : Bool) → b ≡ true → (if b then size else 0) ≡ size
    by_true true is = refl
    by_true false is = cc

sent_fresh : (size t : ℕ) (l : Limit) (s : ℕ → ℕ) → IsFresh l s → l.at ≡ t → IsFresh (with_sent size l) (λ x. (if nat_le x t then size else 0) + s x)
sent_fresh size t l s f is =
    let one : (if nat_le l.began t then size else 0) ≡ size = counts l.began t size (omega (arith, f.began, is)) in
    let two : (if nat_le (l.began - half_of l.settings) t then size else 0) ≡ size =
    counts (l.began - half_of l.settings) t size (omega (arith, f.began, is)) in
    record {
      began = f.began;
      current = f.current;
      now = subst (λ (n : ℕ). min (l.sent_now + size) (2 ^ 64 - 1) ≤ n + s l.began) (sym one) (omega (arith, f.now));
      both = subst (λ (n : ℕ). l.sent_before + min (l.sent_now + size) (2 ^ 64 - 1) ≤ n + s (l.began - half_of l.settings)) (sym two) (omega (arith, f.both));
      credit = omega arith;
    }

held_fresh : (number size round_trip : ℕ) (place : Option ℕ) (l : Limit) (s : ℕ → ℕ) (soon spent : Bool) → IsFresh l s
    → IsFresh (if soon then l else (if spent then l else with_held number size round_trip place l)) s
held_fresh number size round_trip place l s true spent f = f
held_fresh number size round_trip place l s false true f = f
held_fresh number size round_trip None l s false false f = f
held_fresh number size round_trip (Some p) l s false false f =
    record { began = f.began; current = f.current; now = f.now; both = f.both; credit = omega (arith, f.credit) }

held_at : (number size round_trip : ℕ) (place : Option ℕ) (l : Limit) (soon spent : Bool)
    → (if soon then l else (if spent then l else with_held number size round_trip place l)).at ≡ l.at
held_at number size round_trip place l true spent = refl
held_at number size round_trip place l false true = refl
held_at number size round_trip None l false false = refl
held_at number size round_trip (Some p) l false false = refl

-- the time is that of the calls
time_is : (settings : ResendSettings) (calls : List Call) → (after_calls calls (new_limit settings)).at ≡ time_of calls
time_is settings [] = refl
time_is settings (sent now size ∷ before) =
    (passes now (after_calls before (new_limit settings))).at ∙ ap (λ (n : ℕ). max n now) (time_is settings before)
time_is settings (resend now number size round_trip ∷ before) =
    let l : Limit = after_calls before (new_limit settings) in
    let m : Limit = passed now l in
    held_at number size round_trip (free_place m.at m.held) m (is_held m.at number m.held) (nat_lt m.credit (size * 1000)) ∙ (passes now l).at
    ∙ ap (λ (n : ℕ). max n now) (time_is settings before)

fresh : (settings : ResendSettings) (calls : List Call) → IsFresh (after_calls calls (new_limit settings)) (λ x. sent_since x calls)
fresh settings [] = record { began = omega arith; current = omega arith; now = omega arith; both = omega arith; credit = omega arith }
fresh settings (sent now size ∷ before) =
    let l : Limit = after_calls before (new_limit settings) in
    sent_fresh size (max (time_of before) now) (passed now l) (λ x. sent_since x before) (passed_fresh now l (λ x. sent_since x before) (fresh settings before))
    ((passes now l).at ∙ ap (λ (n : ℕ). max n now) (time_is settings before))
fresh settings (resend now number size round_trip ∷ before) =
    let l : Limit = after_calls before (new_limit settings) in
    let m : Limit = passed now l in
    held_fresh number size round_trip (free_place m.at m.held) m (λ x. sent_since x before) (is_held m.at number m.held) (nat_lt m.credit (size * 1000))
    (passed_fresh now l (λ x. sent_since x before) (fresh settings before))

-- from an earlier time on, no less was sent
counts_more : (x y t size : ℕ) → x ≤ y → (if nat_le y t then size else 0) ≤ (if nat_le x t then size else 0)
counts_more x y t size h = by_tests (nat_le y t) (nat_le x t) (λ is. grind (arith, nat_tests))
  where
    by_tests : (b c : Bool) → (b ≡ true → c ≡ true) → (if b then size else 0) ≤ (if c then size else 0)
    by_tests true true f = omega arith
    by_tests true false f = absurd (let e : false ≡ true = f refl in cc)
    by_tests false c f = omega arith

sent_more : (x y : ℕ) → x ≤ y → (calls : List Call) → sent_since y calls ≤ sent_since x calls
sent_more x y h [] = omega arith
sent_more x y h (sent now size ∷ before) = omega (arith, counts_more x y (max (time_of before) now) size h, sent_more x y h before)
sent_more x y h (resend now number size round_trip ∷ before) = sent_more x y h before

pub resends_are_shared : ResendsAreShared
resends_are_shared settings earlier calls =
    let l : Limit = after_calls earlier (new_limit settings) in
    let f : IsFresh l (λ x. sent_since x earlier) = fresh settings earlier in
    let same : l.settings ≡ settings = same_settings earlier (new_limit settings) in
    let from : time_of earlier + 1 - 2 * half_of settings ≤ l.began - half_of settings =
    omega (arith, time_is settings earlier, subst (λ (z : ResendSettings). l.at < l.began + half_of z) same f.current) in
    let late : recent l ≤ sent_since (l.began - half_of settings) earlier =
    subst (λ (z : ResendSettings). recent l ≤ sent_since (l.began - half_of z) earlier) same f.both in
    let few : recent l ≤ sent_since (time_of earlier + 1 - 2 * half_of settings) earlier =
    omega (arith, late, sent_more (time_of earlier + 1 - 2 * half_of settings) (l.began - half_of settings) from earlier) in
    let credit : l.credit ≤ settings.share * recent l = subst (λ (z : ResendSettings). l.credit ≤ z.share * recent l) same f.credit in
    let spent : resent_bytes (resent_by calls l) * 1000 + (after_calls calls l).credit ≤ l.credit + settings.share * sent_in calls =
    subst (λ (z : ResendSettings). resent_bytes (resent_by calls l) * 1000 + (after_calls calls l).credit ≤ l.credit + z.share * sent_in calls) same (spends calls l) in
    omega (arith, mul-le-mul_left settings.share few, credit, spent)
