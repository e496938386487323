-- One call of a session, and all its streams.
use Rattle.std.proofs.Common.{◌≡◌, ◌∙◌, inl, inr, ◌⊎◌, refl, sym, ap, ap₂, subst, subst₂, ℕ, zero, suc, ◌+◌, ◌==◌, ◌&&◌, Bool, true, false, cond, List, [], ◌∷◌, ◌++◌, map, Option, Some, None, option_map, append-nil, slice_get, slice_set, eqb-true, arith}
use Rattle.std.specs.List.{position, position_from}
use Rattle.std.proofs.lemmas.Bool.Decides.{nat_tests}
use Rattle.std.proofs.lemmas.Iterator.Adapters.{position_from-zero}
use Rattle.codec_payload_session_stream.specs.Streams.{Begins, is_of}
use Rattle.codec_payload_session_formats.specs.declared.formats.Format.{Format}
use Rattle.codec_payload_session_formats.specs.declared.formats.SessionSettings.{SessionSettings}
use Rattle.codec_payload_session_stream.specs.Units.{Event}
use Rattle.codec_payload_session_stream.specs.declared.events.Event.TheVariants as events
use Rattle.codec_payload_session_stream.specs.declared.stream.Ending.{Ending}
use Rattle.codec_payload_session_stream.specs.declared.stream.StreamState.{StreamState}
use Rattle.codec_payload_session_runs.proofs.AloneLemmas.{one_in_order}
use Rattle.codec_payload_session_runs.proofs.StreamLemmas.{Goes, HasPart, IsKnown, Keeps, keeps_after, silent_goes}
use Rattle.codec_payload_session_runs.specs.Lives.{AreInOrder, IsAbsent, StartsWithDatagram, events_in, is_announced, is_same, shown_in}
use Rattle.codec_payload_session_runs.specs.SessionRuns.{Call}

-- ---- streams with different SSRCs or payload types

abbrev pub AreApart : List StreamState → Type 0
AreApart [] = Unit {0}
AreApart (s ∷ ss) = IsAbsent s.ssrc s.format.payload_type ss × AreApart ss

abbrev pub AreKnown : List StreamState → Type 0
AreKnown [] = Unit {0}
AreKnown (s ∷ ss) = IsKnown s × AreKnown ss

pub number_sym : (a b : ℕ) → (a == b) ≡ (b == a)
number_sym a b = grind (arith, nat_tests)

pub same_sym : (a b c d : ℕ) → is_same a b c d ≡ is_same c d a b
same_sym a b c d = ap₂ (λ (x y : Bool). x && y) (number_sym c a) (number_sym d b)

pub of_same : (ssrc payload_type : ℕ) (x y : StreamState) → y.ssrc ≡ x.ssrc → y.format ≡ x.format → is_of ssrc payload_type y ≡ is_of ssrc payload_type x
of_same ssrc payload_type x y ssrc_is format = ap₂ (λ (s : ℕ) (f : Format). (s == ssrc) && (f.payload_type == payload_type)) ssrc_is format

both_true : (a b : Bool) → (a && b) ≡ true → (a ≡ true) × (b ≡ true)
both_true true b is = (refl, is)
both_true false b is = absurd (cc)

pub of_is : (ssrc payload_type : ℕ) (x : StreamState) → is_of ssrc payload_type x ≡ true → (x.ssrc ≡ ssrc) × (x.format.payload_type ≡ payload_type)
of_is ssrc payload_type x is =
    let both = both_true (x.ssrc == ssrc) (x.format.payload_type == payload_type) is in
    (eqb-true x.ssrc ssrc both.0, eqb-true x.format.payload_type payload_type both.1)

pub absent_at : (ssrc payload_type : ℕ) (ss : List StreamState) (i : ℕ) (x : StreamState) → IsAbsent ssrc payload_type ss → slice_get ss i ≡ Some x → is_of ssrc payload_type x ≡ false
absent_at ssrc payload_type [] i x absent there = absurd (cc)
absent_at ssrc payload_type (s ∷ ss) zero x absent there = let e : s ≡ x = cc in subst (λ (z : StreamState). is_of ssrc payload_type z ≡ false) e absent.0
absent_at ssrc payload_type (s ∷ ss) (suc i) x absent there = absent_at ssrc payload_type ss i x absent.1 there

pub absent_middle : (ssrc payload_type : ℕ) (front : List StreamState) (x : StreamState) (rest : List StreamState) → IsAbsent ssrc payload_type (front ++ x ∷ rest) → is_of ssrc payload_type x ≡ false
absent_middle ssrc payload_type [] x rest absent = absent.0
absent_middle ssrc payload_type (s ∷ front) x rest absent = absent_middle ssrc payload_type front x rest absent.1

pub absent_more : (ssrc payload_type : ℕ) (ss : List StreamState) (y : StreamState) → IsAbsent ssrc payload_type ss → is_of ssrc payload_type y ≡ false → IsAbsent ssrc payload_type (ss ++ y ∷ [])
absent_more ssrc payload_type [] y absent other = (other, tt)
absent_more ssrc payload_type (s ∷ ss) y absent other = (absent.0, absent_more ssrc payload_type ss y absent.1 other)

pub apart_more : (ss : List StreamState) (y : StreamState) → AreApart ss → IsAbsent y.ssrc y.format.payload_type ss → AreApart (ss ++ y ∷ [])
apart_more [] y apart absent = (tt, tt)
apart_more (s ∷ ss) y apart absent = (
  absent_more s.ssrc s.format.payload_type ss y apart.0 (same_sym s.ssrc s.format.payload_type y.ssrc y.format.payload_type ∙ absent.0),
  apart_more ss y apart.1 absent.1,
)

pub known_more : (ss : List StreamState) (y : StreamState) → AreKnown ss → IsKnown y → AreKnown (ss ++ y ∷ [])
known_more [] y known is = (is, tt)
known_more (s ∷ ss) y known is = (known.0, known_more ss y known.1 is)

-- no stream has the SSRC and payload type, if none is found
found_test : (b : Bool) (ssrc payload_type i : ℕ) (s : StreamState) (ss : List StreamState) → is_of ssrc payload_type s ≡ b → cond b (Some i) (position_from (is_of ssrc payload_type) (i + 1) ss) ≡ None
    → (position_from (is_of ssrc payload_type) (i + 1) ss ≡ None → IsAbsent ssrc payload_type ss) → IsAbsent ssrc payload_type (s ∷ ss)
found_test true ssrc payload_type i s ss is none later = absurd (cc)
found_test false ssrc payload_type i s ss is none later = (is, later none)

not_found : (ssrc payload_type : ℕ) (i : ℕ) (ss : List StreamState) → position_from (is_of ssrc payload_type) i ss ≡ None → IsAbsent ssrc payload_type ss
not_found ssrc payload_type i [] none = tt
not_found ssrc payload_type i (s ∷ ss) none = found_test (is_of ssrc payload_type s) ssrc payload_type i s ss refl none (not_found ssrc payload_type (i + 1) ss)

pub found_none : (ssrc payload_type : ℕ) (ss : List StreamState) → position (is_of ssrc payload_type) ss ≡ None → IsAbsent ssrc payload_type ss
found_none ssrc payload_type ss none = not_found ssrc payload_type 0 ss (sym (position_from-zero (is_of ssrc payload_type) ss) ∙ none)

-- ---- the fate of each stream: it stays, or it is removed

pub record Ends (c : Call) (x : StreamState) : Type 0 where
  pub after : StreamState
  pub why : Ending
  pub has : HasPart c x after
  pub announced : x.announced ≡ true
  pub tells : events_in x.ssrc x.format.payload_type c.answer ≡ events.Ended x.ssrc x.format.payload_type why ∷ []

-- a stream that was not announced is removed without an event
pub record IsReplaced (c : Call) (x : StreamState) : Type 0 where
  pub announced : x.announced ≡ false
  pub tells : events_in x.ssrc x.format.payload_type c.answer ≡ []

abbrev pub IsFate : Call → StreamState → Option StreamState → Type 0
IsFate c x (Some y) = Goes c x y
IsFate c x None = IsReplaced c x ⊎ Ends c x

abbrev pub AreFates : Call → List StreamState → List (Option StreamState) → Type 0
AreFates c [] [] = Unit {0}
AreFates c [] (f ∷ fs) = ⊥
AreFates c (x ∷ xs) [] = ⊥
AreFates c (x ∷ xs) (f ∷ fs) = IsFate c x f × AreFates c xs fs

abbrev pub present : List (Option StreamState) → List StreamState
present [] = []
present (Some y ∷ fs) = y ∷ present fs
present (None ∷ fs) = present fs

-- a stream began with this call
pub record BeginsNow (settings : SessionSettings) (c : Call) (ss : List StreamState) (y : StreamState) : Type 0 where
  pub fresh : StreamState
  pub begins : Begins settings y.ssrc y.format fresh
  pub goes : Goes c fresh y
  pub unannounced : y.announced ≡ false
  pub starts : StartsWithDatagram y.ssrc y.format.payload_type (c ∷ [])
  pub absent : IsAbsent y.ssrc y.format.payload_type ss

abbrev pub AreFresh : SessionSettings → Call → List StreamState → List StreamState → Type 0
AreFresh settings c ss [] = Unit {0}
AreFresh settings c ss (y ∷ []) = BeginsNow settings c ss y
AreFresh settings c ss (y ∷ z ∷ zs) = ⊥

-- the streams before and after a call
pub record Evolves (settings : SessionSettings) (c : Call) (ss ts : List StreamState) : Type 0 where
  pub fates : List (Option StreamState)
  pub are_fates : AreFates c ss fates
  pub fresh : List StreamState
  pub are_fresh : AreFresh settings c ss fresh
  pub left : ts ≡ present fates ++ fresh
  pub silent : (ssrc payload_type : ℕ) → IsAbsent ssrc payload_type ss → events_in ssrc payload_type c.answer ≡ []

-- ---- lists of fates

pub fates_append : (c : Call) (xs : List StreamState) (fs : List (Option StreamState)) (ys : List StreamState) (gs : List (Option StreamState)) → AreFates c xs fs → AreFates c ys gs → AreFates c (xs ++ ys) (fs ++ gs)
fates_append c [] [] ys gs a b = b
fates_append c [] (f ∷ fs) ys gs a b = absurd a
fates_append c (x ∷ xs) [] ys gs a b = absurd a
fates_append c (x ∷ xs) (f ∷ fs) ys gs a b = (a.0, fates_append c xs fs ys gs a.1 b)

pub present_append : (fs gs : List (Option StreamState)) → present (fs ++ gs) ≡ present fs ++ present gs
present_append [] gs = refl
present_append (Some y ∷ fs) gs = ap (λ (ys : List StreamState). y ∷ ys) (present_append fs gs)
present_append (None ∷ fs) gs = present_append fs gs

abbrev pub all_stay : List StreamState → List (Option StreamState)
all_stay [] = []
all_stay (y ∷ ys) = Some y ∷ all_stay ys

pub present_all : (ys : List StreamState) → present (all_stay ys) ≡ ys
present_all [] = refl
present_all (y ∷ ys) = ap (λ (zs : List StreamState). y ∷ zs) (present_all ys)

abbrev pub GoAll : Call → List StreamState → List StreamState → Type 0
GoAll c [] [] = Unit {0}
GoAll c [] (y ∷ ys) = ⊥
GoAll c (x ∷ xs) [] = ⊥
GoAll c (x ∷ xs) (y ∷ ys) = Goes c x y × GoAll c xs ys

pub all_fates : (c : Call) (xs ys : List StreamState) → GoAll c xs ys → AreFates c xs (all_stay ys)
all_fates c [] [] go = tt
all_fates c [] (y ∷ ys) go = absurd go
all_fates c (x ∷ xs) [] go = absurd go
all_fates c (x ∷ xs) (y ∷ ys) go = (go.0, all_fates c xs ys go.1)

abbrev pub IsSilent : Call → Type 0
IsSilent c = (ssrc payload_type : ℕ) → events_in ssrc payload_type c.answer ≡ []

abbrev pub ShowsNothing : Call → Type 0
ShowsNothing c = (ssrc payload_type : ℕ) → shown_in ssrc payload_type c ≡ []

pub evolves_all : (settings : SessionSettings) (c : Call) (xs ys : List StreamState) → IsSilent c → GoAll c xs ys → Evolves settings c xs ys
evolves_all settings c xs ys silent go = record {
  fates = all_stay ys;
  are_fates = all_fates c xs ys go;
  fresh = [];
  are_fresh = tt;
  left = sym (append-nil (present (all_stay ys)) ∙ present_all ys);
  silent = λ ssrc payload_type absent. silent ssrc payload_type;
}

pub silent_all : (c : Call) (xs : List StreamState) → IsSilent c → ShowsNothing c → GoAll c xs xs
silent_all c [] silent nothing = tt
silent_all c (x ∷ xs) silent nothing = (silent_goes c x (nothing x.ssrc x.format.payload_type) (silent x.ssrc x.format.payload_type), silent_all c xs silent nothing)

pub evolves_same : (settings : SessionSettings) (c : Call) (xs : List StreamState) → IsSilent c → ShowsNothing c → Evolves settings c xs xs
evolves_same settings c xs silent nothing = evolves_all settings c xs xs silent (silent_all c xs silent nothing)

pub mapped_all : (c : Call) (g : StreamState → StreamState) (xs : List StreamState) → ((x : StreamState) → Goes c x (g x)) → GoAll c xs (map g xs)
mapped_all c g [] goes = tt
mapped_all c g (x ∷ xs) goes = (goes x, mapped_all c g xs goes)

-- ---- streams that change afterwards, but not their receivers

fates_map : (c : Call) (g : StreamState → StreamState) (xs : List StreamState) (fs : List (Option StreamState)) → ((s : StreamState) → Keeps s (g s)) → AreFates c xs fs → AreFates c xs (map (option_map g) fs)
fates_map c g [] [] keeps are = tt
fates_map c g [] (f ∷ fs) keeps are = absurd are
fates_map c g (x ∷ xs) [] keeps are = absurd are
fates_map c g (x ∷ xs) (Some y ∷ fs) keeps are = (keeps_after c x y (g y) are.0 (keeps y), fates_map c g xs fs keeps are.1)
fates_map c g (x ∷ xs) (None ∷ fs) keeps are = (are.0, fates_map c g xs fs keeps are.1)

present_map : (g : StreamState → StreamState) (fs : List (Option StreamState)) → present (map (option_map g) fs) ≡ map g (present fs)
present_map g [] = refl
present_map g (Some y ∷ fs) = ap (λ (ys : List StreamState). g y ∷ ys) (present_map g fs)
present_map g (None ∷ fs) = present_map g fs

map_append : (g : StreamState → StreamState) (xs ys : List StreamState) → map g (xs ++ ys) ≡ map g xs ++ map g ys
map_append g [] ys = refl
map_append g (x ∷ xs) ys = ap (λ (zs : List StreamState). g x ∷ zs) (map_append g xs ys)

fresh_map : (settings : SessionSettings) (c : Call) (g : StreamState → StreamState) (ss fresh : List StreamState) → ((s : StreamState) → Keeps s (g s)) → AreFresh settings c ss fresh → AreFresh settings c ss (map g fresh)
fresh_map settings c g ss [] keeps are = tt
fresh_map settings c g ss (y ∷ []) keeps are =
    let k : Keeps y (g y) = keeps y in
    record {
      fresh = are.fresh;
      begins = subst₂ (λ (s : ℕ) (f : Format). Begins settings s f are.fresh) (sym k.ssrc_is) (sym k.format) are.begins;
      goes = keeps_after c are.fresh y (g y) are.goes k;
      unannounced = k.announced ∙ are.unannounced;
      starts = subst₂ (λ (s : ℕ) (f : Format). StartsWithDatagram s f.payload_type (c ∷ [])) (sym k.ssrc_is) (sym k.format) are.starts;
      absent = subst₂ (λ (s : ℕ) (f : Format). IsAbsent s f.payload_type ss) (sym k.ssrc_is) (sym k.format) are.absent;
    }
fresh_map settings c g ss (y ∷ z ∷ zs) keeps are = absurd are

pub evolves_map : (settings : SessionSettings) (c : Call) (g : StreamState → StreamState) (ss ts : List StreamState) → ((s : StreamState) → Keeps s (g s)) → Evolves settings c ss ts → Evolves settings c ss (map g ts)
evolves_map settings c g ss ts keeps got = record {
  fates = map (option_map g) got.fates;
  are_fates = fates_map c g ss got.fates keeps got.are_fates;
  fresh = map g got.fresh;
  are_fresh = fresh_map settings c g ss got.fresh keeps got.are_fresh;
  left = ap (λ (zs : List StreamState). map g zs) got.left ∙ (map_append g (present got.fates) got.fresh ∙ ap (λ (zs : List StreamState). zs ++ map g got.fresh) (sym (present_map g got.fates)));
  silent = got.silent;
}

-- ---- one stream changes

pub others_go : (c : Call) (a b : ℕ) (xs : List StreamState) → IsAbsent a b xs → ((z : StreamState) → is_same z.ssrc z.format.payload_type a b ≡ false → Goes c z z) → GoAll c xs xs
others_go c a b [] absent others = tt
others_go c a b (x ∷ xs) absent others = (others x (same_sym x.ssrc x.format.payload_type a b ∙ absent.0), others_go c a b xs absent.1 others)

pub one_goes : (c : Call) (ss : List StreamState) (place : ℕ) (x y : StreamState) → slice_get ss place ≡ Some x → AreApart ss → Goes c x y
    → ((z : StreamState) → is_same z.ssrc z.format.payload_type x.ssrc x.format.payload_type ≡ false → Goes c z z) → GoAll c ss (slice_set ss place y)
one_goes c [] place x y there apart goes others = absurd (cc)
one_goes c (z ∷ zs) zero x y there apart goes others =
    let e : z ≡ x = cc in (
      subst (λ (w : StreamState). Goes c w y) (sym e) goes,
      others_go c x.ssrc x.format.payload_type zs (subst (λ (w : StreamState). IsAbsent w.ssrc w.format.payload_type zs) e apart.0) others,
    )
one_goes c (z ∷ zs) (suc i) x y there apart goes others =
    (others z (absent_at z.ssrc z.format.payload_type zs i x apart.0 there), one_goes c zs i x y there apart.1 goes others)

-- ---- invariants

pub absent_fates : (c : Call) (ssrc payload_type : ℕ) (ss : List StreamState) (fs : List (Option StreamState)) → AreFates c ss fs → IsAbsent ssrc payload_type ss → IsAbsent ssrc payload_type (present fs)
absent_fates c ssrc payload_type [] [] are absent = tt
absent_fates c ssrc payload_type [] (f ∷ fs) are absent = absurd are
absent_fates c ssrc payload_type (x ∷ xs) [] are absent = absurd are
absent_fates c ssrc payload_type (x ∷ xs) (Some y ∷ fs) are absent =
    (of_same ssrc payload_type x y are.0.has.ssrc_is are.0.has.format ∙ absent.0, absent_fates c ssrc payload_type xs fs are.1 absent.1)
absent_fates c ssrc payload_type (x ∷ xs) (None ∷ fs) are absent = absent_fates c ssrc payload_type xs fs are.1 absent.1

pub apart_fates : (c : Call) (ss : List StreamState) (fs : List (Option StreamState)) → AreFates c ss fs → AreApart ss → AreApart (present fs)
apart_fates c [] [] are apart = tt
apart_fates c [] (f ∷ fs) are apart = absurd are
apart_fates c (x ∷ xs) [] are apart = absurd are
apart_fates c (x ∷ xs) (Some y ∷ fs) are apart = (
  subst₂ (λ (s : ℕ) (f : Format). IsAbsent s f.payload_type (present fs)) (sym are.0.has.ssrc_is) (sym are.0.has.format) (absent_fates c x.ssrc x.format.payload_type xs fs are.1 apart.0),
  apart_fates c xs fs are.1 apart.1,
)
apart_fates c (x ∷ xs) (None ∷ fs) are apart = apart_fates c xs fs are.1 apart.1

pub known_fates : (c : Call) (ss : List StreamState) (fs : List (Option StreamState)) → AreFates c ss fs → AreKnown ss → AreKnown (present fs)
known_fates c [] [] are known = tt
known_fates c [] (f ∷ fs) are known = absurd are
known_fates c (x ∷ xs) [] are known = absurd are
known_fates c (x ∷ xs) (Some y ∷ fs) are known = (are.0.known known.0, known_fates c xs fs are.1 known.1)
known_fates c (x ∷ xs) (None ∷ fs) are known = known_fates c xs fs are.1 known.1

-- ---- events in order

fresh_unannounced : (settings : SessionSettings) (c : Call) (ssrc payload_type : ℕ) (ss fresh : List StreamState) → AreFresh settings c ss fresh → is_announced ssrc payload_type fresh ≡ false
fresh_unannounced settings c ssrc payload_type ss [] are = refl
fresh_unannounced settings c ssrc payload_type ss (y ∷ []) are = by_test (is_of ssrc payload_type y) refl
  where
    by_test : (b : Bool) → is_of ssrc payload_type y ≡ b → is_announced ssrc payload_type (y ∷ []) ≡ false
    by_test true is = rw is are.unannounced
    by_test false is = rw is refl
fresh_unannounced settings c ssrc payload_type ss (y ∷ z ∷ zs) are = absurd are

announced_none : (ssrc payload_type : ℕ) (ss fresh : List StreamState) → IsAbsent ssrc payload_type ss → is_announced ssrc payload_type fresh ≡ false → is_announced ssrc payload_type (ss ++ fresh) ≡ false
announced_none ssrc payload_type [] fresh absent unannounced = unannounced
announced_none ssrc payload_type (s ∷ ss) fresh absent unannounced = let e : is_of ssrc payload_type s ≡ false = absent.0 in rw e (announced_none ssrc payload_type ss fresh absent.1 unannounced)

away_in_order : (c : Call) (x : StreamState) (after : Bool) → after ≡ false → IsReplaced c x ⊎ Ends c x → AreInOrder x.announced (events_in x.ssrc x.format.payload_type c.answer) after
away_in_order c x after unannounced (inl replaced) = subst (λ (es : List Event). AreInOrder x.announced es after) (sym replaced.tells) (unannounced ∙ sym replaced.announced)
away_in_order c x after unannounced (inr ends) = subst (λ (es : List Event). AreInOrder x.announced es after) (sym ends.tells) (ends.announced, unannounced)

pub order_fates : (c : Call) (ssrc payload_type : ℕ) (ss : List StreamState) (fs : List (Option StreamState)) (fresh : List StreamState) → AreFates c ss fs → AreApart ss
    → is_announced ssrc payload_type fresh ≡ false → (IsAbsent ssrc payload_type ss → events_in ssrc payload_type c.answer ≡ [])
    → AreInOrder (is_announced ssrc payload_type ss) (events_in ssrc payload_type c.answer) (is_announced ssrc payload_type (present fs ++ fresh))
order_fates c ssrc payload_type [] [] fresh are apart unannounced silent = subst (λ (es : List Event). AreInOrder false es (is_announced ssrc payload_type fresh)) (sym (silent tt)) unannounced
order_fates c ssrc payload_type [] (f ∷ fs) fresh are apart unannounced silent = absurd are
order_fates c ssrc payload_type (x ∷ xs) [] fresh are apart unannounced silent = absurd are
order_fates c ssrc payload_type (x ∷ xs) (f ∷ fs) fresh are apart unannounced silent =
    by_test (is_of ssrc payload_type x) refl (λ (is : is_of ssrc payload_type x ≡ false). order_fates c ssrc payload_type xs fs fresh are.1 apart.1 unannounced (λ absent. silent (is, absent)))
  where
    here : (g : Option StreamState) → IsFate c x g → is_of ssrc payload_type x ≡ true
        → AreInOrder x.announced (events_in ssrc payload_type c.answer) (is_announced ssrc payload_type (present (g ∷ fs) ++ fresh))
    here (Some y) fate is =
        let ids = of_is ssrc payload_type x is in
        let same : is_of ssrc payload_type y ≡ true = of_same ssrc payload_type x y fate.has.ssrc_is fate.has.format ∙ is in
        let announced : is_announced ssrc payload_type (y ∷ (present fs ++ fresh)) ≡ y.announced = rw same refl in
        subst (λ (b : Bool). AreInOrder x.announced (events_in ssrc payload_type c.answer) b) (sym announced)
        (subst₂ (λ (a b : ℕ). AreInOrder x.announced (events_in a b c.answer) y.announced) ids.0 ids.1 (one_in_order (events_in x.ssrc x.format.payload_type c.answer) x.announced y.announced fate.tells))
    here None fate is =
        let ids = of_is ssrc payload_type x is in
        let absent : IsAbsent ssrc payload_type xs = subst₂ (λ (a b : ℕ). IsAbsent a b xs) ids.0 ids.1 apart.0 in
        let none : is_announced ssrc payload_type (present fs ++ fresh) ≡ false = announced_none ssrc payload_type (present fs) fresh (absent_fates c ssrc payload_type xs fs are.1 absent) unannounced in
        subst₂ (λ (a b : ℕ). AreInOrder x.announced (events_in a b c.answer) (is_announced ssrc payload_type (present fs ++ fresh))) ids.0 ids.1
        (away_in_order c x (is_announced ssrc payload_type (present fs ++ fresh)) none fate)

    there : (g : Option StreamState) → IsFate c x g → is_of ssrc payload_type x ≡ false
        → AreInOrder (is_announced ssrc payload_type xs) (events_in ssrc payload_type c.answer) (is_announced ssrc payload_type (present fs ++ fresh))
        → AreInOrder (is_announced ssrc payload_type xs) (events_in ssrc payload_type c.answer) (is_announced ssrc payload_type (present (g ∷ fs) ++ fresh))
    there (Some y) fate is later =
        let other : is_of ssrc payload_type y ≡ false = of_same ssrc payload_type x y fate.has.ssrc_is fate.has.format ∙ is in
        let announced : is_announced ssrc payload_type (y ∷ (present fs ++ fresh)) ≡ is_announced ssrc payload_type (present fs ++ fresh) = rw other refl in
        subst (λ (b : Bool). AreInOrder (is_announced ssrc payload_type xs) (events_in ssrc payload_type c.answer) b) (sym announced) later
    there None fate is later = later

    by_test : (b : Bool) → is_of ssrc payload_type x ≡ b
        → (is_of ssrc payload_type x ≡ false → AreInOrder (is_announced ssrc payload_type xs) (events_in ssrc payload_type c.answer) (is_announced ssrc payload_type (present fs ++ fresh)))
        → AreInOrder (is_announced ssrc payload_type (x ∷ xs)) (events_in ssrc payload_type c.answer) (is_announced ssrc payload_type (present (f ∷ fs) ++ fresh))
    by_test true is later =
        let announced : is_announced ssrc payload_type (x ∷ xs) ≡ x.announced = rw is refl in
        subst (λ (b : Bool). AreInOrder b (events_in ssrc payload_type c.answer) (is_announced ssrc payload_type (present (f ∷ fs) ++ fresh))) (sym announced) (here f are.0 is)
    by_test false is later =
        let announced : is_announced ssrc payload_type (x ∷ xs) ≡ is_announced ssrc payload_type xs = rw is refl in
        subst (λ (b : Bool). AreInOrder b (events_in ssrc payload_type c.answer) (is_announced ssrc payload_type (present (f ∷ fs) ++ fresh))) (sym announced)
        (there f are.0 is (later is))

pub order_evolves : (settings : SessionSettings) (c : Call) (ssrc payload_type : ℕ) (ss ts : List StreamState) → AreApart ss → Evolves settings c ss ts
    → AreInOrder (is_announced ssrc payload_type ss) (events_in ssrc payload_type c.answer) (is_announced ssrc payload_type ts)
order_evolves settings c ssrc payload_type ss ts apart got =
    subst (λ (zs : List StreamState). AreInOrder (is_announced ssrc payload_type ss) (events_in ssrc payload_type c.answer) (is_announced ssrc payload_type zs)) (sym got.left)
    (order_fates c ssrc payload_type ss got.fates got.fresh got.are_fates apart (fresh_unannounced settings c ssrc payload_type ss got.fresh got.are_fresh) (got.silent ssrc payload_type))
