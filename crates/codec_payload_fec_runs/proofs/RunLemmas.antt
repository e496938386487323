-- A run with FEC is a run over datagrams.
use Rattle.std.proofs.Common.{◌≡◌, ℕ, zero, suc, ◌+◌, ◌-◌, ◌%◌, ◌≤◌, Bool, true, false, cond, leb, List, [], ◌∷◌, ◌++◌, Option, Some, None, refl, sym, ap, subst, ◌∙◌, append_assoc, arith}
use Rattle.std.specs.Prelude.{IfSome, MatchOption, slice_get}
use Rattle.std.proofs.lemmas.List.{append-nil}
use Rattle.codec_payload_base.specs.declared.wire.Ticks.{Ticks}
use Rattle.codec_payload_rtp.specs.RtpReading.{rtp_at}
use Rattle.codec_payload_fec.specs.Protecting.{IsOfStream}
use Rattle.codec_payload_fec.specs.Rebuilding.{to_list}
use Rattle.codec_payload_fec.specs.Strings.{number_of}
use Rattle.codec_payload_fec_receiver.specs.Contents.{content_of}
use Rattle.codec_payload_fec_receiver.specs.Runs.{HoldsNothing, IsOfSender, IsSender, WereSent}
use Rattle.codec_payload_fec_receiver.specs.States.{State, next_of, received}
use Rattle.codec_payload_fec_receiver.specs.declared.content.FecSettings.{FecSettings}
use Rattle.codec_payload_fec_receiver.proofs.SoundLemmas.{Stands, next_sent, next_stands, nothing_stands, received_stands, settings_stand, stands_more}
use Rattle.codec_payload_payloader.specs.Sending.{Sample}
use Rattle.codec_payload_sending.specs.Senders.{Sending}
use Rattle.codec_payload_receiver.specs.Sessions.{Session}
use Rattle.codec_payload_datagram_runs.specs.Releases.{ReleasesWithinWindows}
use Rattle.codec_payload_datagram_runs.specs.WireRuns.{Delivers, DoesStep, Receipt, Runs, Wire, begins}
use Rattle.codec_payload_datagram_runs.specs.declared.run.DatagramStep.{DatagramStep}
use Rattle.codec_payload_datagram_runs.specs.declared.run.DatagramStep.TheVariants as steps
use Rattle.codec_payload_datagram_runs.proofs.ReleaseLemmas.{release_over_datagrams}
use Rattle.codec_payload_datagram_runs.proofs.RepeatLemmas.{grows}
use Rattle.codec_payload_fec_runs.specs.FecRuns.{AreDeliveries, FecRuns, FecStep, FecWire, GetsIf, GetsPacket, IsRun, IsWithFec, ReleaseWithFec, ReleasesAsRun, RunsWithFecAreRuns, sent_at}
use Rattle.codec_payload_fec_runs.specs.FecRuns.AreDeliveries.{no_steps, plain_too, not_seen, rebuilt_nothing, rebuilt_one}
use Rattle.codec_payload_fec_runs.specs.FecRuns.FecStep.{Plain, Reaches, Rebuilds}

-- ---- what was sent stays

in_front : (xs ys : List (List ℕ)) (i : ℕ) (p : List ℕ) → slice_get xs i ≡ Some p → slice_get (xs ++ ys) i ≡ Some p
in_front [] ys i p e = absurd cc
in_front (x ∷ xs) ys zero p e = e
in_front (x ∷ xs) ys (suc i) p e = in_front xs ys i p e

sent_if : (xs ys : List (List ℕ)) (i : ℕ) (p : List ℕ) (b : Bool) → cond b (slice_get xs i) None ≡ Some p → cond b (slice_get (xs ++ ys) i) None ≡ Some p
sent_if xs ys i p true e = in_front xs ys i p e
sent_if xs ys i p false e = absurd cc

sent_more : (first : ℕ) (xs ys zs : List (List ℕ)) → zs ≡ xs ++ ys → (n : ℕ) (p : List ℕ) → sent_at first xs n ≡ Some p → sent_at first zs n ≡ Some p
sent_more first xs ys zs whole n p e =
    let P : List (List ℕ) → Type 0 = λ ds. sent_at first ds n ≡ Some p in
    subst P (sym whole) (sent_if xs ys (n - first) p (leb first n) e)

-- the index of a sent packet
index_if : (first n : ℕ) (xs : List (List ℕ)) (p : List ℕ) (b : Bool) → cond b (slice_get xs (n - first)) None ≡ Some p → (k : ℕ) × (slice_get xs k ≡ Some p)
index_if first n xs p true e = (n - first, e)
index_if first n xs p false e = absurd cc

index_of : (first n : ℕ) (xs : List (List ℕ)) (p : List ℕ) → sent_at first xs n ≡ Some p → (k : ℕ) × (slice_get xs k ≡ Some p)
index_of first n xs p e = index_if first n xs p (leb first n) e

-- a sender of fewer packets
fewer_if : (ssrc n : ℕ) (o o' : Option (List ℕ)) → ((p : List ℕ) → o ≡ Some p → o' ≡ Some p) → IfSome o' (λ p. IsOfStream ssrc p × (number_of p ≡ n % 65536)) → IfSome o (λ p. IsOfStream ssrc p × (number_of p ≡ n % 65536))
fewer_if ssrc n None o' more h = tt
fewer_if ssrc n (Some p) o' more h = let P : Option (List ℕ) → Type 0 = λ x. IfSome x (λ q. IsOfStream ssrc q × (number_of q ≡ n % 65536)) in subst P (more p refl) h

fewer : (ssrc first : ℕ) (xs ys zs : List (List ℕ)) → zs ≡ xs ++ ys → IsSender ssrc (sent_at first zs) → IsSender ssrc (sent_at first xs)
fewer ssrc first xs ys zs whole is = record { packets = λ n. fewer_if ssrc n (sent_at first xs n) (sent_at first zs n) (sent_more first xs ys zs whole n) (is.packets n) }

-- ---- the datagrams of a run

longer_same : (xs zs : List (List ℕ)) → zs ≡ xs → (ys : List (List ℕ)) × (zs ≡ xs ++ ys)
longer_same xs zs e = ([], e ∙ sym (append-nil xs))

longer_twice : (xs ms zs : List (List ℕ)) → (ys : List (List ℕ)) × (ms ≡ xs ++ ys) → (ys : List (List ℕ)) × (zs ≡ ms ++ ys) → (ys : List (List ℕ)) × (zs ≡ xs ++ ys)
longer_twice xs ms zs a b = (a.0 ++ b.0, b.1 ∙ ap (λ (ds : List (List ℕ)). ds ++ b.0) a.1 ∙ append_assoc xs a.0 b.0)

gets_same : (now : Ticks) (o : Option (List ℕ)) (s t : Wire) → GetsIf now o s t → t.datagrams ≡ s.datagrams
gets_same now None s t gets = ap (λ (x : Wire). x.datagrams) gets
gets_same now (Some p) s t gets = ap (λ (x : Wire). x.datagrams) gets.left

longer : (first : ℕ) (samples : List Sample) (highest : Option ℕ) (fec_steps : List FecStep) (s t : FecWire) → FecRuns first samples highest fec_steps s t → (ys : List (List ℕ)) × (t.wire.datagrams ≡ s.wire.datagrams ++ ys)
longer first samples highest [] s t runs = longer_same s.wire.datagrams t.wire.datagrams (ap (λ (x : FecWire). x.wire.datagrams) runs)
longer first samples highest (Plain step ∷ later) s t runs =
    let g = grows samples step s.wire runs.0 runs.1 in
    longer_twice s.wire.datagrams runs.0.datagrams t.wire.datagrams (g.new, g.whole) (longer first samples highest later (record s { wire = runs.0 }) t runs.2)
longer first samples highest (Reaches datagram ∷ later) s t runs = longer first samples runs.0 later (record s { fec = received datagram s.fec }) t runs.2
longer first samples highest (Rebuilds now ∷ later) s t runs =
    longer_twice s.wire.datagrams runs.0.datagrams t.wire.datagrams (longer_same s.wire.datagrams runs.0.datagrams (gets_same now (next_of s.fec).packet s.wire runs.0 runs.1))
    (longer first samples highest later (record { wire = runs.0; fec = (next_of s.fec).state }) t runs.2)

-- ---- the run

-- a packet that was sent is delivered
delivers : (samples : List Sample) (now : Ticks) (p : List ℕ) (k : ℕ) (s t : Wire) → slice_get s.datagrams k ≡ Some p → GetsPacket now p s t → DoesStep samples (steps.Deliver k now) s t
delivers samples now p k s t here gets =
    let P : Option (List ℕ) → Type 0 =
    λ o. MatchOption o (t ≡ s) (λ bytes. (receipt : Receipt) × (session : Session) × Delivers now bytes s.session receipt session × (t ≡ record s { session = session; receipts = s.receipts ++ receipt ∷ [] })) in
    subst P (sym here) (gets.receipt, gets.session, gets.delivers, gets.left)

-- what follows a step is a run
one_more : (samples : List Sample) (now : Ticks) (later : List FecStep) (s mid t : FecWire) (o : Option (List ℕ)) → ((p : List ℕ) → o ≡ Some p → (k : ℕ) × (slice_get s.wire.datagrams k ≡ Some p)) → GetsIf now o s.wire mid.wire
    → IsRun samples later mid t → IsRun samples (Rebuilds now ∷ later) s t
one_more samples now later s mid t None sent gets rest = record {
  deliveries = rest.deliveries;
  are = rebuilt_nothing now later rest.deliveries rest.are;
  runs = let P : Wire → Type 0 = λ w. Runs samples rest.deliveries w t.wire in subst P gets rest.runs;
}
one_more samples now later s mid t (Some p) sent gets rest =
    let at = sent p refl in
    record {
      deliveries = steps.Deliver at.0 now ∷ rest.deliveries;
      are = rebuilt_one now at.0 later rest.deliveries rest.are;
      runs = (mid.wire, delivers samples now p at.0 s.wire mid.wire at.1 gets, rest.runs);
    }

handed : (sent : ℕ → Option (List ℕ)) (o : Option (List ℕ)) (p : List ℕ) → o ≡ Some p → WereSent sent (to_list o) → (n : ℕ) × (sent n ≡ Some p)
handed sent o p e h = let P : Option (List ℕ) → Type 0 = λ x. WereSent sent (to_list x) in (subst P e h).0

is_run : (ss : FecSettings) (first : ℕ) (samples : List Sample) (highest : Option ℕ) (fec_steps : List FecStep) (s t : FecWire) → FecRuns first samples highest fec_steps s t
    → IsSender ss.ssrc (sent_at first t.wire.datagrams) → Stands (sent_at first s.wire.datagrams) ss highest s.fec → IsRun samples fec_steps s t
is_run ss first samples highest [] s t runs is h = record { deliveries = []; are = no_steps; runs = ap (λ (x : FecWire). x.wire) runs }
is_run ss first samples highest (Plain step ∷ later) s t runs is h =
    let g = grows samples step s.wire runs.0 runs.1 in
    let mid : FecWire = record s { wire = runs.0 } in
    let stands = stands_more (sent_at first s.wire.datagrams) (sent_at first runs.0.datagrams) (sent_more first s.wire.datagrams g.new runs.0.datagrams g.whole) ss highest s.fec h in
    let rest = is_run ss first samples highest later mid t runs.2 is stands in
    record { deliveries = step ∷ rest.deliveries; are = plain_too step later rest.deliveries rest.are; runs = (runs.0, runs.1, rest.runs) }
is_run ss first samples highest (Reaches datagram ∷ later) s t runs is h =
    let sent : ℕ → Option (List ℕ) = sent_at first s.wire.datagrams in
    let Of : FecSettings → Type 0 = λ settings. IsOfSender settings sent (content_of settings (rtp_at datagram)) highest runs.0 in
    let stands = received_stands sent ss datagram highest runs.0 s.fec (subst Of (settings_stand sent ss highest s.fec h) runs.1) h in
    let rest = is_run ss first samples runs.0 later (record s { fec = received datagram s.fec }) t runs.2 is stands in
    record { deliveries = rest.deliveries; are = not_seen datagram later rest.deliveries rest.are; runs = rest.runs }
is_run ss first samples highest (Rebuilds now ∷ later) s t runs is h =
    let sent : ℕ → Option (List ℕ) = sent_at first s.wire.datagrams in
    let mid : FecWire = record { wire = runs.0; fec = (next_of s.fec).state } in
    let all = longer first samples highest (Rebuilds now ∷ later) s t runs in
    let sender : IsSender ss.ssrc (sent_at first s.wire.datagrams) = fewer ss.ssrc first s.wire.datagrams all.0 t.wire.datagrams all.1 is in
    let Same : List (List ℕ) → Type 0 = λ ds. Stands (sent_at first ds) ss highest (next_of s.fec).state in
    let stands = subst Same (sym (gets_same now (next_of s.fec).packet s.wire runs.0 runs.1)) (next_stands (sent_at first s.wire.datagrams) ss highest s.fec sender h) in
    let rest = is_run ss first samples highest later mid t runs.2 is stands in
    let was_sent = next_sent (sent_at first s.wire.datagrams) ss highest s.fec sender h in
    one_more samples now later s mid t (next_of s.fec).packet
    (λ p e. let at = handed (sent_at first s.wire.datagrams) (next_of s.fec).packet p e was_sent in index_of first at.0 s.wire.datagrams p at.1) runs.1 rest

pub runs_with_fec_are_runs : RunsWithFecAreRuns
runs_with_fec_are_runs first samples fec_steps s t with = is_run s.fec.settings first samples None fec_steps s t with.runs with.sender (nothing_stands (sent_at first s.wire.datagrams) s.fec with.nothing)

pub release_with_fec : ReleaseWithFec
release_with_fec first samples fec_steps sender receiver fec t with =
    let s : FecWire = record { wire = begins sender receiver; fec = fec } in
    let run = runs_with_fec_are_runs first samples fec_steps s t with in
    record { is_run = run; releases = release_over_datagrams samples run.deliveries sender receiver t.wire run.runs }
