-- Lemmas on reports of telephone events.
use Rattle.std.proofs.Common.{◌≡◌, ℕ, ◌+◌, ◌*◌, ◌/◌, ◌%◌, ◌<◌, ◌≤◌, List, [], ◌∷◌, drop, get_or, Some, None, Bool, true, false, refl, arith, cond, leb, eqb}
use Rattle.std.proofs.Math.Nat.{div-add-mod, mod-lt}
use Rattle.std.proofs.lemmas.Bool.{le-leb, eqb-true}
use Rattle.std.specs.Int.Bits.{bit_and}
use Rattle.codec_payload_base.proofs.ByteTables.{below_each}
use Rattle.codec_payload_base.specs.declared.interface.TelephoneEvent.{TelephoneEvent}
use Rattle.codec_payload_base.specs.TelephoneReport.{nanoseconds_of, units_of, report, report_of, reports_of, bytes_of_report, without_reserved, are_reports, first_report}

-- units are recovered if a unit is longer than a nanosecond
pub units_of-nanoseconds_of : (units rate : ℕ) → 0 < rate → rate < 1000000000 → units_of (nanoseconds_of units rate) rate ≡ units
units_of-nanoseconds_of units rate some few =
    let whole : rate * ((units * 1000000000 + rate / 2) / rate) + (units * 1000000000 + rate / 2) % rate ≡ units * 1000000000 + rate / 2 = div-add-mod (units * 1000000000 + rate / 2) rate in
    let rest : (units * 1000000000 + rate / 2) % rate < rate = mod-lt (units * 1000000000 + rate / 2) some in
    omega (arith, whole, rest)

-- one report, and the ones after it
pub reports_of-more : (bytes : List ℕ) (rate : ℕ) (e : TelephoneEvent) → report_of bytes rate ≡ Some e → reports_of bytes rate ≡ e ∷ reports_of (drop 4 bytes) rate
reports_of-more [] rate e h = cc
reports_of-more (a ∷ []) rate e h = cc
reports_of-more (a ∷ b ∷ []) rate e h = cc
reports_of-more (a ∷ b ∷ c ∷ []) rate e h = cc
reports_of-more (a ∷ b ∷ c ∷ d ∷ rest) rate e h = cc

-- the mask 0xbf keeps the top bit and the low six
flags_kept : (flags : ℕ) → flags < 256 → cond (leb 128 flags) 128 0 + flags % 64 % 64 ≡ bit_and flags 0xbf
flags_kept flags small = eqb-true (cond (leb 128 flags) 128 0 + flags % 64 % 64) (bit_and flags 0xbf) (below_each 256 (λ f. eqb (cond (leb 128 f) 128 0 + f % 64 % 64) (bit_and f 0xbf)) refl flags small)

-- a report that was read is written as its bytes, except for the reserved bit
pub written_again : (bytes : List ℕ) (rate : ℕ) (e : TelephoneEvent) → 0 < rate → rate < 1000000000 → ((i : ℕ) → get_or bytes i 0 < 256) → report_of bytes rate ≡ Some e → bytes_of_report e rate ≡ Some (without_reserved bytes)
written_again (a ∷ b ∷ c ∷ d ∷ rest) rate e some few small h =
    let units : units_of (nanoseconds_of (c * 256 + d) rate) rate ≡ c * 256 + d = units_of-nanoseconds_of (c * 256 + d) rate some few in
    let low : d < 256 = small 3 in
    let fits : c * 256 + d ≤ 65535 = omega (arith, small 2, small 3) in
    let high_is : (c * 256 + d) / 256 ≡ c = omega arith in
    let low_is : (c * 256 + d) % 256 ≡ d = omega arith in
    let is : e ≡ record { event = a; end = leb 128 b; volume = b % 64; duration = nanoseconds_of (c * 256 + d) rate } = cc in
    rw (is, units, le-leb (c * 256 + d) 65535 fits, high_is, low_is, flags_kept b (small 1)) refl
written_again bytes rate e some few small h = cc

none_if : (r : Bool) (e : TelephoneEvent) → cond r (Some e) None ≡ None → r ≡ false
none_if true e h = cc
none_if false e h = refl

-- whole reports have a first one
pub first_is_there : (bytes : List ℕ) (rate : ℕ) → first_report bytes rate ≡ None → are_reports bytes ≡ false
first_is_there [] rate h = refl
first_is_there (a ∷ []) rate h = refl
first_is_there (a ∷ b ∷ []) rate h = refl
first_is_there (a ∷ b ∷ c ∷ []) rate h = refl
first_is_there (a ∷ b ∷ c ∷ d ∷ rest) rate h = none_if (are_reports (a ∷ b ∷ c ∷ d ∷ rest)) (report rate a b c d) h
