-- Deadlines of streams as a list of numbers, and the least of them.
use Rattle.std.proofs.Common.{◌≡◌, ◌∙◌, ◌<◌, ◌≤◌, ℕ, zero, suc, ◌-◌, ◌^◌, min, List, [], ◌∷◌, length, get_or, Option, Some, None, ap, refl, sym, subst, arith}
use Rattle.codec_payload_index.specs.Times.{first_come, least_of}
use Rattle.codec_payload_session_stream.specs.Dues.{HasKey, key_of, keys_of}
use Rattle.codec_payload_session_stream.specs.Streams.{StreamState, due_in, due_of, earlier}
use Rattle.codec_payload_session_stream.specs.Waking.{AllWake, IsTimed, OthersWake}
use Rattle.codec_payload_session_stream.specs.declared.waking.Waking.{Waking}

-- ---- one time as a number

key_earlier : (a b : Option ℕ) → key_of (earlier a b) ≡ min (key_of a) (key_of b)
key_earlier None None = refl
key_earlier None (Some m) = omega arith
key_earlier (Some n) None = omega arith
key_earlier (Some n) (Some m) = omega arith

pub some_early : (a : Option ℕ) (key : ℕ) → key ≡ key_of a → key < 2 ^ 64 - 2 → Some key ≡ a
some_early None key is less = absurd (omega (arith, is, less))
some_early (Some n) key is less = ap (λ (k : ℕ). Some k) (omega (arith, is, less))

pub none_late : (a : Option ℕ) (key : ℕ) → key ≡ key_of a → 2 ^ 64 - 2 < key → None ≡ a
none_late None key is late = refl
none_late (Some n) key is late = absurd (omega (arith, is, late))

-- ---- the least of them

pub key_least : (idle : ℕ) (ss : List StreamState) → key_of (due_in idle ss) ≡ least_of (keys_of idle ss)
key_least idle [] = refl
key_least idle (s ∷ ss) = key_earlier (due_of idle s) (due_in idle ss) ∙ ap (λ (k : ℕ). min (key_of (due_of idle s)) k) (key_least idle ss)

least_bound : (ts : List ℕ) → least_of ts ≤ 2 ^ 64 - 1
least_bound [] = omega arith
least_bound (t ∷ ts) = omega (arith, least_bound ts)

-- the least of the deadlines is at most that of each stream
least_most : (idle i : ℕ) (d : StreamState) (ss : List StreamState) → i < length ss → least_of (keys_of idle ss) ≤ key_of (due_of idle (get_or ss i d))
least_most idle i d [] within = absurd (omega (arith, within))
least_most idle zero d (s ∷ ss) within = omega arith
least_most idle (suc i) d (s ∷ ss) within = omega (arith, least_most idle i d ss (omega (arith, within)))

-- no stream is due before the least of the times
all_due : (idle k : ℕ) (ts : List ℕ) (ss : List StreamState) → AllWake idle ts ss → k ≤ least_of ts → k ≤ least_of (keys_of idle ss)
all_due idle k ts [] all low = omega (arith, low, least_bound ts)
all_due idle k [] (s ∷ ss) all low = absurd all
all_due idle k (t ∷ ts) (s ∷ ss) all low = omega (arith, low, all.0.due, all_due idle k ts ss all.1 (omega (arith, low)))

others_due : (idle i k : ℕ) (d : StreamState) (ts : List ℕ) (ss : List StreamState) → i < length ss → OthersWake idle i ts ss → k ≤ least_of ts → k ≤ key_of (due_of idle (get_or ss i d)) → k ≤ least_of (keys_of idle ss)
others_due idle i k d ts [] within others low own = absurd (omega (arith, within))
others_due idle i k d [] (s ∷ ss) within others low own = absurd others
others_due idle zero k d (t ∷ ts) (s ∷ ss) within others low own = omega (arith, own, all_due idle k ts ss others (omega (arith, low)))
others_due idle (suc i) k d (t ∷ ts) (s ∷ ss) within others low own =
    omega (arith, low, others.0.due, others_due idle i k d ts ss (omega (arith, within)) others.1 (omega (arith, low)) own)

-- the stream that is excepted is due first
pub least_fed : (w : Waking) (idle key least : ℕ) (x : StreamState) (ss : List StreamState) → IsTimed w ss → w.idle_timeout ≡ idle → x ≡ get_or ss w.fed x → key ≡ key_of (due_of idle x) → least ≡ least_of w.times → key ≤ least
    → key ≡ least_of (keys_of idle ss)
least_fed w idle key least x ss it same there is least_is low =
    let others : OthersWake idle w.fed w.times ss = subst (λ (i : ℕ). OthersWake i w.fed w.times ss) same it.others in
    let own : key ≡ key_of (due_of idle (get_or ss w.fed x)) = is ∙ ap (λ (s : StreamState). key_of (due_of idle s)) there in
    omega (arith, own, least_most idle w.fed x ss it.within, others_due idle w.fed key x w.times ss it.within others (omega (arith, low, least_is)) (omega (arith, own)))

-- another stream is
pub least_other : (w : Waking) (idle key least : ℕ) (x : StreamState) (ss : List StreamState) → IsTimed w ss → w.idle_timeout ≡ idle → x ≡ get_or ss w.fed x → key ≡ key_of (due_of idle x) → least ≡ least_of w.times → least ≤ key
    → HasKey idle least ss → least ≡ least_of (keys_of idle ss)
least_other w idle key least x ss it same there is least_is low has =
    let others : OthersWake idle w.fed w.times ss = subst (λ (i : ℕ). OthersWake i w.fed w.times ss) same it.others in
    let own : key ≡ key_of (due_of idle (get_or ss w.fed x)) = is ∙ ap (λ (s : StreamState). key_of (due_of idle s)) there in
    let found : key_of (due_of idle (get_or ss has.place has.stream)) ≡ least = ap (λ (s : StreamState). key_of (due_of idle s)) (sym has.there) ∙ has.same in
    omega (arith, found, least_most idle has.place has.stream ss has.within, others_due idle w.fed least x w.times ss it.within others (omega (arith, least_is)) (omega (arith, own, low)))
