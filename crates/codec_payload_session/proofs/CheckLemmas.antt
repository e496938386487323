-- What follows from settings without a fault: their formats can begin streams.
use Rattle.std.proofs.Common.{◌≡◌, ◌&&◌, ◌||◌, ◌==◌, ◌++◌, ◌∷◌, [], ℕ, List, Bool, true, false, not, if◌then◌else◌, Option, Some, None, Result, Ok, Err, OnOk, OnErr, is_some, nat_le, nat_lt, length, refl, sym, subst, arith, inl, inr}
use Rattle.std.proofs.lemmas.Bool.Decides.{nat_tests}
use Rattle.std.specs.declared.alloc.AllocError.{AllocError}
use Rattle.codec_payload_base.specs.declared.wire.Ticks.{Ticks}
use Rattle.codec_payload_codec.specs.Depacketizers.{depacketizer_state_for}
use Rattle.codec_payload_datagrams.specs.Kinds.{is_among}
use Rattle.codec_payload_receiver.specs.declared.receiver.RedSettings.{RedSettings}
use Rattle.codec_payload_session.specs.Arrivals.{Port}
use Rattle.codec_payload_session.specs.Associations.{AddsPair, TakesInBy}
use Rattle.codec_payload_session_formats.specs.Checks.{at_most_127, can_begin, fault_of, feedback_fault, first_of, format_fault, format_fits, formats_fault, is_payload_type, is_named, limit_fault, listed_fault, red_fault, red_fits, red_retransmission_fault, retransmission_fault, step_fault, streams_fault, transport_fault, type_fault, types_fault}
use Rattle.codec_payload_session_formats.specs.Formats.{has_type, resends, role_by, role_of, stream_of}
use Rattle.codec_payload_session_formats.specs.Sorting.{sorted_by, sorted_packet, sorted_retransmission}
use Rattle.codec_payload_session_formats.specs.declared.checks.SessionSettingsError.{SessionSettingsError}
use Rattle.codec_payload_session_formats.specs.declared.checks.SessionSettingsError.TheVariants as faults
use Rattle.codec_payload_session_formats.specs.declared.formats.Format.{Format}
use Rattle.codec_payload_session_formats.specs.declared.formats.Role.{Role}
use Rattle.codec_payload_session_formats.specs.declared.formats.Role.TheVariants as roles
use Rattle.codec_payload_session_formats.specs.declared.formats.SessionSettings.{SessionSettings}
use Rattle.codec_payload_session_formats.specs.declared.formats.SsrcPair.{SsrcPair}
use Rattle.codec_payload_session_stream.specs.declared.arrival.Arrival.{Arrival}
use Rattle.codec_payload_session_formats.specs.Sorting as sorted
use Rattle.codec_payload_session_stream.proofs.CheckLemmas.{fits}

-- ---- no fault

none_one : (a b : Option SessionSettingsError) → first_of a b ≡ None → a ≡ None
none_one None b is = refl
none_one (Some fault) b is = absurd (cc)

none_two : (a b : Option SessionSettingsError) → first_of a b ≡ None → b ≡ None
none_two None b is = is
none_two (Some fault) b is = absurd (cc)

first_none : (a : Option SessionSettingsError) → first_of a None ≡ a
first_none None = refl
first_none (Some fault) = refl

type_in_range : (at : Option ℕ) (taken : Bool) (t : ℕ) → type_fault at taken t ≡ None → is_payload_type t ≡ true
type_in_range at taken t none = by_test (is_payload_type t) none
  where
    by_test : (b : Bool) → (if b then (if taken then Some (faults.TwoMeanings at t) else None) else Some (faults.PayloadType at t)) ≡ None → b ≡ true
    by_test true is = refl
    by_test false is = absurd (cc)

type_untaken : (at : Option ℕ) (taken : Bool) (t : ℕ) → type_fault at taken t ≡ None → taken ≡ false
type_untaken at taken t none = by_test (is_payload_type t) taken none
  where
    by_test : (b c : Bool) → (if b then (if c then Some (faults.TwoMeanings at t) else None) else Some (faults.PayloadType at t)) ≡ None → c ≡ false
    by_test true true is = absurd (cc)
    by_test true false is = refl
    by_test false c is = absurd (cc)

small : (t : ℕ) → is_payload_type t ≡ true → nat_le t 127 ≡ true
small t is = grind (arith, nat_tests)

type_small : (at : Option ℕ) (taken : Bool) (t : ℕ) → type_fault at taken t ≡ None → nat_le t 127 ≡ true
type_small at taken t none = small t (type_in_range at taken t none)

step_in_range : (index step : ℕ) → step_fault index step ≡ None → (nat_le 1 step && nat_le step 16383) ≡ true
step_in_range index step none = by_test (nat_le 1 step && nat_le step 16383) none
  where
    by_test : (b : Bool) → (if b then None else Some (faults.RedStep index)) ≡ None → b ≡ true
    by_test true is = refl
    by_test false is = absurd (cc)

and_left : (a b : Bool) → (a && b) ≡ true → a ≡ true
and_left true b both = refl
and_left false b both = absurd (cc)

and_right : (a b : Bool) → (a && b) ≡ true → b ≡ true
and_right true b both = both
and_right false b both = absurd (cc)

or_right : (a b : Bool) → (a || b) ≡ false → b ≡ false
or_right true b none = absurd (cc)
or_right false b none = none

all_three : (a b c : Bool) → a ≡ true → b ≡ true → c ≡ true → (a && b && c) ≡ true
all_three true true true x y z = refl
all_three true true false x y z = absurd (cc)
all_three true false c x y z = absurd (cc)
all_three false b c x y z = absurd (cc)

all_four : (a b c d : Bool) → a ≡ true → b ≡ true → c ≡ true → d ≡ true → (a && b && c && d) ≡ true
all_four true b c d x y z w = all_three b c d y z w
all_four false b c d x y z w = absurd (cc)

apart : (a b : ℕ) → (a == b) ≡ false → not (b == a) ≡ true
apart a b other = grind (arith, nat_tests)

above_zero : (n : ℕ) → nat_le 1 n ≡ true → nat_lt 0 n ≡ true
above_zero n above = grind (arith, nat_tests)

-- ---- a format

red_in_range : (earlier : List Format) (own : ℕ) (red : Option RedSettings) → red_fault earlier own red ≡ None → red_fits own red ≡ true
red_in_range earlier own None none = refl
red_in_range earlier own (Some red) none =
    let at : Option ℕ = Some (length earlier) in
    let taken : Bool = is_named earlier red.payload_type || (own == red.payload_type) in
    let type : type_fault at taken red.payload_type ≡ None = none_one (type_fault at taken red.payload_type) (step_fault (length earlier) red.step) none in
    let step : step_fault (length earlier) red.step ≡ None = none_two (type_fault at taken red.payload_type) (step_fault (length earlier) red.step) none in
    all_four (nat_le red.payload_type 127) (not (red.payload_type == own)) (nat_lt 0 red.step) (nat_le red.step 16383) (type_small at taken red.payload_type type)
    (apart own red.payload_type (or_right (is_named earlier red.payload_type) (own == red.payload_type) (type_untaken at taken red.payload_type type)))
    (above_zero red.step (and_left (nat_le 1 red.step) (nat_le red.step 16383) (step_in_range (length earlier) red.step step)))
    (and_right (nat_le 1 red.step) (nat_le red.step 16383) (step_in_range (length earlier) red.step step))

retransmission_in_range : (earlier : List Format) (f : Format) (own : Option ℕ) → retransmission_fault earlier f own ≡ None → at_most_127 own ≡ true
retransmission_in_range earlier f None none = refl
retransmission_in_range earlier f (Some own) none =
    let taken : Bool = is_named earlier own || has_type f own in
    type_small (Some (length earlier)) taken own (none_one (type_fault (Some (length earlier)) taken own) (red_retransmission_fault earlier f own f.red) none)

types_fit : (earlier : List Format) (f : Format) → types_fault earlier f ≡ None
    → (nat_le f.payload_type 127 && red_fits f.payload_type f.red && at_most_127 f.retransmission) ≡ true
types_fit earlier f none =
    let rest : first_of (red_fault earlier f.payload_type f.red) (retransmission_fault earlier f f.retransmission) ≡ None =
    none_two (type_fault (Some (length earlier)) (is_named earlier f.payload_type) f.payload_type) _ none in
    all_three (nat_le f.payload_type 127) (red_fits f.payload_type f.red) (at_most_127 f.retransmission)
    (type_small (Some (length earlier)) (is_named earlier f.payload_type) f.payload_type (none_one (type_fault (Some (length earlier)) (is_named earlier f.payload_type) f.payload_type) _ none))
    (red_in_range earlier f.payload_type f.red (none_one (red_fault earlier f.payload_type f.red) (retransmission_fault earlier f f.retransmission) rest))
    (retransmission_in_range earlier f f.retransmission (none_two (red_fault earlier f.payload_type f.red) (retransmission_fault earlier f f.retransmission) rest))

format_in_range : (earlier : List Format) (f : Format) → format_fault earlier f ≡ None → format_fits f ≡ true
format_in_range earlier f none = by_test (is_some (depacketizer_state_for f.spec.codec)) none
  where
    by_test : (b : Bool) → (if b then types_fault earlier f else Some (faults.Codec (length earlier))) ≡ None
        → (b && nat_le f.payload_type 127 && red_fits f.payload_type f.red && at_most_127 f.retransmission) ≡ true
    by_test true is = types_fit earlier f is
    by_test false is = absurd (cc)

-- ---- the format of a datagram of media

no_media_role : (b : Bool) (f : Format) → (if b then roles.NoMedia else roles.Unknown) ≡ roles.Media f → ⊥
no_media_role true f is = absurd (cc)
no_media_role false f is = absurd (cc)

same_format : (g f : Format) → roles.Media g ≡ roles.Media f → g ≡ f
same_format g f media = cc

role_fits : (earlier fs : List Format) (dropped telephone : List ℕ) (t : ℕ) (f : Format) → formats_fault earlier fs ≡ None → role_by fs dropped telephone t ≡ roles.Media f → format_fits f ≡ true
role_fits earlier [] dropped telephone t f none is = absurd (no_media_role (is_among t dropped || is_among t telephone) f is)
role_fits earlier (g ∷ gs) dropped telephone t f none is =
    by_test (has_type g t) (resends g t) (format_in_range earlier g (none_one (format_fault earlier g) (formats_fault (earlier ++ g ∷ []) gs) none))
    (role_fits (earlier ++ g ∷ []) gs dropped telephone t f (none_two (format_fault earlier g) (formats_fault (earlier ++ g ∷ []) gs) none)) is
  where
    by_test : (b c : Bool) → format_fits g ≡ true → (role_by gs dropped telephone t ≡ roles.Media f → format_fits f ≡ true)
        → (if b then roles.Media g else (if c then roles.Retransmission g else role_by gs dropped telephone t)) ≡ roles.Media f → format_fits f ≡ true
    by_test true c first rest media = subst (λ (x : Format). format_fits x ≡ true) (same_format g f media) first
    by_test false true first rest media = absurd (cc)
    by_test false false first rest media = rest media

sorted_media : (r : Role) (s : SessionSettings) (of ssrc : ℕ) (f : Format) → sorted_by r s of ≡ sorted.Media ssrc f → r ≡ roles.Media f
sorted_media (roles.Media g) s of ssrc f is = cc
sorted_media (roles.Retransmission g) s of ssrc f is = by_pair (stream_of of s.pairs.items) is
  where
    by_pair : (o : Option ℕ) → sorted_retransmission o g.payload_type ≡ sorted.Media ssrc f → roles.Retransmission g ≡ roles.Media f
    by_pair None said = absurd (cc)
    by_pair (Some own) said = absurd (cc)
sorted_media roles.NoMedia s of ssrc f is = absurd (cc)
sorted_media roles.Unknown s of ssrc f is = absurd (cc)

limit_in_range : (limit : ℕ) → limit_fault limit ≡ None → (nat_le 1 limit && nat_le limit 65536) ≡ true
limit_in_range limit none = by_test (nat_le 1 limit && nat_le limit 65536) none
  where
    by_test : (b : Bool) → (if b then None else Some faults.Limit) ≡ None → b ≡ true
    by_test true is = refl
    by_test false is = absurd (cc)

can_by : (a b c : Bool) → (a && b) ≡ true → c ≡ true → (a && b && c) ≡ true
can_by true true c both x = x
can_by true false c both x = absurd (cc)
can_by false b c both x = absurd (cc)

begins_by_role : (s : SessionSettings) (t : ℕ) (f : Format) → fault_of s ≡ None → role_of s t ≡ roles.Media f → can_begin s f ≡ true
begins_by_role s t f none is =
    let listed : Option SessionSettingsError =
    first_of (listed_fault s.formats.items [] s.no_media.items) (listed_fault s.formats.items s.no_media.items s.telephone_events.items) in
    let types : Option SessionSettingsError = first_of (formats_fault [] s.formats.items) listed in
    let numbers : Option SessionSettingsError = first_of (limit_fault s.limit) (streams_fault s.max_streams) in
    let all : first_of numbers types ≡ None = none_one (first_of numbers types) (first_of (feedback_fault s.feedback) (transport_fault s.transport)) none in
    let limit : (nat_le 1 s.limit && nat_le s.limit 65536) ≡ true =
    limit_in_range s.limit (none_one (limit_fault s.limit) (streams_fault s.max_streams) (none_one numbers types all)) in
    let fits : format_fits f ≡ true =
    role_fits [] s.formats.items s.no_media.items s.telephone_events.items t f (none_one (formats_fault [] s.formats.items) listed (none_two numbers types all)) is in
    can_by (nat_le 1 s.limit) (nat_le s.limit 65536) (format_fits f) limit fits

-- a stream can begin by the format of each packet of media
pub packet_begins : (s : SessionSettings) (of payload_type ssrc : ℕ) (f : Format) → fault_of s ≡ None → sorted_packet s of payload_type ≡ sorted.Media ssrc f → can_begin s f ≡ true
packet_begins s of payload_type ssrc f none is = begins_by_role s payload_type f none (sorted_media (role_of s payload_type) s of ssrc f is)

-- ---- pairs change no fault

pub paired_usable : (o : Result (Unit {0}) AllocError) (pair : SsrcPair) (s : SessionSettings) (p : Port) (t : SessionSettings) (q : Port) → OnOk o (AddsPair pair s p t q) → OnErr o (t ≡ s)
    → fault_of s ≡ None → fault_of t ≡ None
paired_usable (Ok done) pair s p t q got same usable = subst (λ (x : SessionSettings). fault_of x ≡ None) (sym got.settings) usable
paired_usable (Err e) pair s p t q got same usable = subst (λ (x : SessionSettings). fault_of x ≡ None) (sym same) usable

pub takes_usable : (o : Option SsrcPair) (now : Ticks) (bytes : List ℕ) (s : SessionSettings) (p : Port) (answer : Result Arrival AllocError) (t : SessionSettings) (q : Port)
    → TakesInBy o now bytes s p answer t q → fault_of s ≡ None → fault_of t ≡ None
takes_usable None now bytes s p answer t q got usable = subst (λ (x : SessionSettings). fault_of x ≡ None) (sym got.1) usable
takes_usable (Some pair) now bytes s p answer t q (inl got) usable = subst (λ (x : SessionSettings). fault_of x ≡ None) (sym got.adds.settings) usable
takes_usable (Some pair) now bytes s p answer t q (inr got) usable = subst (λ (x : SessionSettings). fault_of x ≡ None) (sym got.1) usable
