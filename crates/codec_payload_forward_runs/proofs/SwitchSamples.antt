-- The samples of the viewer's stream: what is received of them, their units, and that they can be read again.
use Rattle.std.proofs.Common.{◌≡◌, ◌∙◌, refl, sym, ap, ℕ, zero, suc, ◌+◌, List, [], ◌∷◌, ◌++◌, append_assoc, Bool, true, false, cond, ltb, Option, Some, None, arith}
use Rattle.std.specs.Prelude.{not, slice_get}
use Rattle.std.proofs.lemmas.Option.{same_Some}
use Rattle.codec_payload_base.specs.declared.wire.Codec.{Codec}
use Rattle.codec_payload_base.specs.declared.wire.Codec.TheVariants as codecs
use Rattle.codec_payload_buffer_runs.specs.SentStream.{AreReadable, packetizer_after_sample, units_of_run, units_of_sample}
use Rattle.codec_payload_buffer_runs.specs.Units.{canonical_units, is_readable, is_skipped, packetizer_after}
use Rattle.codec_payload_buffer_runs.specs.declared.run.Step.{Step}
use Rattle.codec_payload_buffer_runs.specs.declared.run.Step.TheVariants as run_steps
use Rattle.codec_payload_codec.specs.Packetizers.{PacketizerState, Vp8Packetizing, Vp9Packetizing}
use Rattle.codec_payload_payloader.specs.Sending.{Sample}
use Rattle.codec_payload_vp8.specs.Vp8Sent.{advanced}
use Rattle.codec_payload_sending_forward.specs.Forwarding.{Forward}
use Rattle.codec_payload_sending_forward.specs.declared.ids.IdOffsets.{IdOffsets}
use Rattle.codec_payload_datagram_runs.specs.Releases.{received_steps, sending_steps, sends_after, sent_after, times_of, times_sent}
use Rattle.codec_payload_datagram_runs.specs.declared.run.DatagramStep.{DatagramStep}
use Rattle.codec_payload_datagram_runs.specs.declared.run.DatagramStep.TheVariants as seen_steps
use Rattle.codec_payload_datagram_runs.specs.declared.run.SentSample.{SentSample}
use Rattle.codec_payload_forward_runs.proofs.SwitchSenders.{AreAtIndex}
use Rattle.codec_payload_forward_runs.proofs.SwitchSent.{total}
use Rattle.codec_payload_forward_runs.specs.ForwardReleases.{moved_packetizer, viewer_samples}
use Rattle.codec_payload_forward_runs.specs.LeaveReleases.{sends_no_ids}
use Rattle.codec_payload_forward_runs.specs.SwitchUnits.{Sent, all_below, entries_in, none_below, samples_in, send_each, sent_in, units_of_sent, with_first}
use Rattle.codec_payload_forward_runs.specs.declared.run.ForwardStep.TheVariants as plain
use Rattle.codec_payload_forward_runs.specs.declared.switch_run.Source.{Source}
use Rattle.codec_payload_forward_runs.specs.declared.switch_run.Source.TheVariants as sources
use Rattle.codec_payload_forward_runs.specs.declared.switch_run.SwitchStep.{SwitchStep}
use Rattle.codec_payload_forward_runs.specs.declared.switch_run.SwitchStep.TheVariants as steps

-- Packetizers without ids

-- their ids are not moved
pub moved_none : (codec : Codec) (o : IdOffsets) (packetizer : PacketizerState) → sends_no_ids packetizer ≡ true → moved_packetizer codec o packetizer ≡ packetizer
moved_none codecs.Vp9 o (Vp9Packetizing sender) none = absurd (cc)
moved_none codecs.Vp9 o packetizer none = refl
moved_none codec o packetizer none = refl

-- and they stay
after_none : (packetizer : PacketizerState) (mtu : ℕ) (frame : List ℕ) → sends_no_ids packetizer ≡ true → packetizer_after packetizer mtu frame ≡ packetizer
after_none (Vp8Packetizing None) mtu frame none = by (not (is_skipped (Vp8Packetizing None) mtu frame))
  where
    by : (b : Bool) → Vp8Packetizing (advanced b None) ≡ Vp8Packetizing None
    by true = refl
    by false = refl
after_none (Vp8Packetizing (Some id)) mtu frame none = absurd (cc)
after_none (Vp9Packetizing sender) mtu frame none = absurd (cc)
after_none packetizer mtu frame none = refl

-- Samples at other times

-- each of these samples has the bytes of a sample that was sent
abbrev pub AreSeen : List Sample → List Sent → Type 0
AreSeen [] [] = Unit {0}
AreSeen [] (x ∷ xs) = ⊥
AreSeen (y ∷ ys) [] = ⊥
AreSeen (y ∷ ys) (x ∷ xs) = (y.bytes ≡ x.sample.bytes) × AreSeen ys xs

pub seen_moved : (f : Forward) (rate : ℕ) (xs : List Sent) → AreSeen (viewer_samples f rate (samples_in xs)) xs
seen_moved f rate [] = tt
seen_moved f rate (x ∷ xs) = (refl, seen_moved f rate xs)

pub seen_append : (ys zs : List Sample) (xs ws : List Sent) → AreSeen ys xs → AreSeen zs ws → AreSeen (ys ++ zs) (xs ++ ws)
seen_append [] zs [] ws here more = more
seen_append [] zs (x ∷ xs) ws here more = absurd here
seen_append (y ∷ ys) zs [] ws here more = absurd here
seen_append (y ∷ ys) zs (x ∷ xs) ws here more = (here.0, seen_append ys zs xs ws here.1 more)

pub seen_both : (before after : Forward) (rate : ℕ) (xs ws : List Sent) → AreSeen (viewer_samples before rate (samples_in xs) ++ viewer_samples after rate (samples_in ws)) (xs ++ ws)
seen_both before after rate xs ws = seen_append (viewer_samples before rate (samples_in xs)) (viewer_samples after rate (samples_in ws)) xs ws (seen_moved before rate xs) (seen_moved after rate ws)

-- how many datagrams are there after them
pub received_sent : (all ys : List Sample) (xs : List Sent) (i sent : ℕ) (more : List DatagramStep) → AreAtIndex all i ys → AreSeen ys xs
    → received_steps all sent (send_each i xs ++ more) (entries_in xs) ≡ received_steps all (sent + total xs) more []
received_sent all [] [] i sent more at seen = ap (λ (n : ℕ). received_steps all n more []) (omega arith)
received_sent all [] (x ∷ xs) i sent more at seen = absurd seen
received_sent all (y ∷ ys) [] i sent more at seen = absurd seen
received_sent all (y ∷ ys) (x ∷ xs) i sent more at seen =
    ap (λ (o : Option Sample). received_steps all (sent_after sent o (x.entry ∷ entries_in xs)) (send_each (i + 1) xs ++ more) (sends_after o (x.entry ∷ entries_in xs))) at.0
    ∙ (received_sent all ys xs (i + 1) (sent + x.entry.count) more at.1 seen.1 ∙ ap (λ (n : ℕ). received_steps all n more []) (omega arith))

-- the units of these samples
pub units_sent : (packetizer : PacketizerState) (mtu : ℕ) (all ys : List Sample) (xs : List Sent) (i : ℕ) (more : List DatagramStep) → sends_no_ids packetizer ≡ true → AreAtIndex all i ys → AreSeen ys xs
    → units_of_run packetizer all (sending_steps mtu (send_each i xs ++ more)) ≡ units_of_sent packetizer mtu xs ++ units_of_run packetizer all (sending_steps mtu more)
units_sent packetizer mtu all [] [] i more none at seen = refl
units_sent packetizer mtu all [] (x ∷ xs) i more none at seen = absurd seen
units_sent packetizer mtu all (y ∷ ys) [] i more none at seen = absurd seen
units_sent packetizer mtu all (y ∷ ys) (x ∷ xs) i more none at seen =
    let later : List Step = sending_steps mtu (send_each (i + 1) xs ++ more) in
    let one : List (List (List ℕ)) = canonical_units packetizer mtu x.sample.bytes in
    ap (λ (o : Option Sample). units_of_sample packetizer mtu o ++ units_of_run (packetizer_after_sample packetizer mtu o) all later) at.0
    ∙ (ap (λ (bytes : List ℕ). canonical_units packetizer mtu bytes ++ units_of_run (packetizer_after packetizer mtu bytes) all later) seen.0
    ∙ (ap (λ (p : PacketizerState). one ++ units_of_run p all later) (after_none packetizer mtu x.sample.bytes none)
    ∙ (ap (λ (us : List (List (List ℕ))). one ++ us) (units_sent packetizer mtu all ys xs (i + 1) more none at.1 seen.1)
    ∙ sym (append_assoc one (units_of_sent packetizer mtu xs) (units_of_run packetizer all (sending_steps mtu more))))))

pub units_append : (packetizer : PacketizerState) (mtu : ℕ) (xs ys : List Sent) → units_of_sent packetizer mtu (xs ++ ys) ≡ units_of_sent packetizer mtu xs ++ units_of_sent packetizer mtu ys
units_append packetizer mtu [] ys = refl
units_append packetizer mtu (x ∷ xs) ys =
    ap (λ (us : List (List (List ℕ))). canonical_units packetizer mtu x.sample.bytes ++ us) (units_append packetizer mtu xs ys)
    ∙ sym (append_assoc (canonical_units packetizer mtu x.sample.bytes) (units_of_sent packetizer mtu xs) (units_of_sent packetizer mtu ys))

-- They can be read again

abbrev pub SentReadable : PacketizerState → List Sent → Type 0
SentReadable packetizer [] = Unit {0}
SentReadable packetizer (x ∷ xs) = (is_readable packetizer x.sample.bytes ≡ true) × SentReadable packetizer xs

module _ (packetizer : PacketizerState) where
  readable_at : (samples : List Sample) (i : ℕ) (sample : Sample) → AreReadable packetizer samples → slice_get samples i ≡ Some sample → is_readable packetizer sample.bytes ≡ true
  readable_at [] i sample readable there = absurd (cc)
  readable_at (s ∷ samples) zero sample readable there = ap (λ (x : Sample). is_readable packetizer x.bytes) (sym (same_Some s sample there)) ∙ readable.0
  readable_at (s ∷ samples) (suc i) sample readable there = readable_at samples i sample readable.1 there

  pub readable_append : (xs ys : List Sent) → SentReadable packetizer xs → SentReadable packetizer ys → SentReadable packetizer (xs ++ ys)
  readable_append [] ys here more = more
  readable_append (x ∷ xs) ys here more = (here.0, readable_append xs ys here.1 more)

  module _ (samples : List Sample) (readable : AreReadable packetizer samples) where
    first_readable : (i : ℕ) (o : Option Sample) (entries : List SentSample) → slice_get samples i ≡ o → SentReadable packetizer (with_first o entries)
    first_readable i None entries is = tt
    first_readable i (Some sample) [] is = tt
    first_readable i (Some sample) (entry ∷ entries) is = (readable_at samples i sample readable is, tt)

    pub sent_readable : (source : Source) (all_steps : List SwitchStep) (entries : List SentSample) → SentReadable packetizer (sent_in source samples all_steps entries)
    sent_readable source [] entries = tt
    sent_readable sources.First (steps.Of sources.First (plain.Send i) ∷ later) entries =
        readable_append (with_first (slice_get samples i) entries) (sent_in sources.First samples later (sends_after (slice_get samples i) entries)) (first_readable i (slice_get samples i) entries refl)
        (sent_readable sources.First later (sends_after (slice_get samples i) entries))
    sent_readable sources.Second (steps.Of sources.Second (plain.Send i) ∷ later) entries =
        readable_append (with_first (slice_get samples i) entries) (sent_in sources.Second samples later (sends_after (slice_get samples i) entries)) (first_readable i (slice_get samples i) entries refl)
        (sent_readable sources.Second later (sends_after (slice_get samples i) entries))
    sent_readable source (step ∷ later) entries = sent_readable source later entries

  either : (b : Bool) (x : Sent) (xs : List Sent) → is_readable packetizer x.sample.bytes ≡ true → SentReadable packetizer xs → SentReadable packetizer (cond b xs (x ∷ xs))
  either true x xs here rest = rest
  either false x xs here rest = (here, rest)

  pub below_readable : (index k : ℕ) (xs : List Sent) → SentReadable packetizer xs → SentReadable packetizer (all_below index k xs)
  below_readable index k [] readable = tt
  below_readable index k (x ∷ xs) readable = either (ltb index (k + x.entry.count)) x (all_below index (k + x.entry.count) xs) readable.0 (below_readable index (k + x.entry.count) xs readable.1)

  pub above_readable : (index k : ℕ) (xs : List Sent) → SentReadable packetizer xs → SentReadable packetizer (none_below index k xs)
  above_readable index k [] readable = tt
  above_readable index k (x ∷ xs) readable = either (ltb k index) x (none_below index (k + x.entry.count) xs) readable.0 (above_readable index (k + x.entry.count) xs readable.1)

  pub seen_readable : (ys : List Sample) (xs : List Sent) → AreSeen ys xs → SentReadable packetizer xs → AreReadable packetizer ys
  seen_readable [] [] seen readable = tt
  seen_readable [] (x ∷ xs) seen readable = absurd seen
  seen_readable (y ∷ ys) [] seen readable = absurd seen
  seen_readable (y ∷ ys) (x ∷ xs) seen readable = (ap (is_readable packetizer) seen.0 ∙ readable.0, seen_readable ys xs seen.1 readable.1)

-- Their times

pub times_joined : (rate : ℕ) (all ys : List Sample) (xs : List Sent) (i : ℕ) (more : List DatagramStep) (rest : List SentSample) → AreAtIndex all i ys → AreSeen ys xs
    → times_sent rate all (send_each i xs ++ more) (entries_in xs ++ rest) ≡ times_sent rate all (send_each i xs) (entries_in xs) ++ times_sent rate all more rest
times_joined rate all [] [] i more rest at seen = refl
times_joined rate all [] (x ∷ xs) i more rest at seen = absurd seen
times_joined rate all (y ∷ ys) [] i more rest at seen = absurd seen
times_joined rate all (y ∷ ys) (x ∷ xs) i more rest at seen =
    let here : List ℕ = times_of rate (Some y) (x.entry ∷ entries_in xs) in
    let later : List ℕ = times_sent rate all more rest in
    ap (λ (o : Option Sample). times_of rate o (x.entry ∷ (entries_in xs ++ rest)) ++ times_sent rate all (send_each (i + 1) xs ++ more) (sends_after o (x.entry ∷ (entries_in xs ++ rest)))) at.0
    ∙ (ap (λ (ts : List ℕ). here ++ ts) (times_joined rate all ys xs (i + 1) more rest at.1 seen.1)
    ∙ (sym (append_assoc here (times_sent rate all (send_each (i + 1) xs) (entries_in xs)) later)
    ∙ ap (λ (o : Option Sample). (times_of rate o (x.entry ∷ entries_in xs) ++ times_sent rate all (send_each (i + 1) xs) (sends_after o (x.entry ∷ entries_in xs))) ++ later) (sym at.0)))

pub sending_append : (mtu : ℕ) (xs ys : List DatagramStep) → sending_steps mtu (xs ++ ys) ≡ sending_steps mtu xs ++ sending_steps mtu ys
sending_append mtu [] ys = refl
sending_append mtu (seen_steps.Send i ∷ xs) ys = ap (λ (ss : List Step). run_steps.Send i mtu ∷ ss) (sending_append mtu xs ys)
sending_append mtu (seen_steps.Deliver k now ∷ xs) ys = sending_append mtu xs ys
sending_append mtu (seen_steps.Pop now ∷ xs) ys = sending_append mtu xs ys
sending_append mtu (seen_steps.Finish ∷ xs) ys = sending_append mtu xs ys
