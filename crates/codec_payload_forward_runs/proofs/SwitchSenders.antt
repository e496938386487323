-- The sender of the viewer's stream: it sends the samples of a source, after any other datagrams.
use Rattle.std.proofs.Common.{◌≡◌, ◌∙◌, refl, sym, ap, subst, ℕ, ◌+◌, ◌-◌, ◌%◌, ◌^◌, ◌<◌, ◌≤◌, List, [], ◌∷◌, ◌++◌, append-nil, append_assoc, length-append, Option, Some, None, Result, Ok, drop, length, map, arith}
use Rattle.std.specs.Prelude.{slice_get}
use Rattle.std.proofs.lemmas.List.{drop-append-le, length-drop, length-map}
use Rattle.codec_payload_base.specs.declared.error.PacketError.{PacketError}
use Rattle.codec_payload_codec.specs.Packetizers.{PacketizerState, PacketizerStep, is_built_in}
use Rattle.codec_payload_payloader.specs.Sending.{Sample}
use Rattle.codec_payload_receiver.specs.Sessions.{Session}
use Rattle.codec_payload_sending.specs.Datagrams.{AreSent, Sample as SentNow, time_of}
use Rattle.codec_payload_sending.specs.Senders.{Refuses, Sending, Sends, counted}
use Rattle.codec_payload_sending.specs.declared.sender.Outgoing.{Outgoing}
use Rattle.codec_payload_sending_forward.specs.Forwarding.{Forward}
use Rattle.codec_payload_datagram_runs.specs.WireRuns.{Runs, SendsIt, SendsOrRefuses, Wire, sent_sample}
use Rattle.codec_payload_datagram_runs.specs.declared.run.DatagramStep.{DatagramStep}
use Rattle.codec_payload_datagram_runs.specs.declared.run.DatagramStep.TheVariants as seen
use Rattle.codec_payload_datagram_runs.specs.declared.run.SentSample.{SentSample}
use Rattle.codec_payload_forward_runs.proofs.SenderLemmas.{IsView, View, map_append, seen_sender, sends_it_too}
use Rattle.codec_payload_forward_runs.proofs.SwitchSent.{HasSent, SendsAll, Stays, all_count, one_count, sent_on}
use Rattle.codec_payload_forward_runs.specs.ForwardReleases.{viewer_datagram, viewer_sample, viewer_samples}
use Rattle.codec_payload_forward_runs.specs.SwitchUnits.{Sent, entries_in, samples_in, send_each}

-- What a sender sends does not depend on its counts

pub record Alike (v w : Sending) : Type 0 where
  pub packetizer : v.packetizer ≡ w.packetizer
  pub mtu : v.mtu ≡ w.mtu
  pub stream : v.stream ≡ w.stream

record DoesAlike (sample : SentNow) (fault : Option PacketError) (v x : Sending) : Type 0 where
  left : Sending
  does : SendsOrRefuses sample v fault left
  alike : Alike left x
  datagrams : left.datagrams ≡ x.datagrams

step_alike : (sample : SentNow) (answer : Result (List (List ℕ)) PacketError) (after : PacketizerState) (v w : Sending) → Alike v w → PacketizerStep w.packetizer w.mtu sample.bytes answer after
    → PacketizerStep v.packetizer v.mtu sample.bytes answer after
step_alike sample answer after v w alike step =
    subst (λ (m : ℕ). PacketizerStep v.packetizer m sample.bytes answer after) (sym alike.mtu)
    (subst (λ (p : PacketizerState). PacketizerStep p w.mtu sample.bytes answer after) (sym alike.packetizer) step)

sends_alike : (sample : SentNow) (v w x : Sending) → Alike v w → Sends w sample x → DoesAlike sample None v x
sends_alike sample v w x alike sends =
    let payloads : List (List ℕ) = sends.payloads in
    let left : Sending = record v {
      packetizer = x.packetizer;
      stream = record v.stream { number = (v.stream.number + length payloads) % 2 ^ 16 };
      counts = counted v.counts (time_of v.stream sample) payloads;
      datagrams = x.datagrams;
    } in
    let does : Sends v sample left = record {
      payloads = payloads;
      packetized = λ built. step_alike sample (Ok payloads) x.packetizer v w alike (sends.packetized (sym (ap is_built_in alike.packetizer) ∙ built));
      sent = subst (λ (o : Outgoing). AreSent o x.packetizer sample payloads x.datagrams) (sym alike.stream) sends.sent;
      left = refl;
    } in
    record {
      left = left;
      does = does;
      alike = record {
        packetizer = refl;
        mtu = alike.mtu ∙ sym (ap (λ (y : Sending). y.mtu) sends.left);
        stream = ap (λ (o : Outgoing). record o { number = (o.number + length payloads) % 2 ^ 16 }) alike.stream ∙ sym (ap (λ (y : Sending). y.stream) sends.left);
      };
      datagrams = refl;
    }

refuses_alike : (sample : SentNow) (fault : PacketError) (v w x : Sending) → Alike v w → SendsOrRefuses sample w (Some fault) x → DoesAlike sample (Some fault) v x
refuses_alike sample fault v w x alike refuses =
    let left : Sending = record v { packetizer = x.packetizer; datagrams = [] } in
    let does : Refuses v sample fault left = record {
      packetized = λ built. let step = refuses.1.packetized (sym (ap is_built_in alike.packetizer) ∙ built) in (step.0, step_alike sample step.0 x.packetizer v w alike step.1, step.2);
      left = refl;
    } in
    record {
      left = left;
      does = (refuses.0, does);
      alike = record {
        packetizer = refl;
        mtu = alike.mtu ∙ sym (ap (λ (y : Sending). y.mtu) refuses.1.left);
        stream = alike.stream ∙ sym (ap (λ (y : Sending). y.stream) refuses.1.left);
      };
      datagrams = sym (ap (λ (y : Sending). y.datagrams) refuses.1.left);
    }

does_alike : (sample : SentNow) (fault : Option PacketError) (v w x : Sending) → Alike v w → SendsOrRefuses sample w fault x → DoesAlike sample fault v x
does_alike sample None v w x alike sends = sends_alike sample v w x alike sends
does_alike sample (Some fault) v w x alike refuses = refuses_alike sample fault v w x alike refuses

-- Where samples are in a list

abbrev pub AreAtIndex : List Sample → ℕ → List Sample → Type 0
AreAtIndex all i [] = Unit {0}
AreAtIndex all i (x ∷ xs) = (slice_get all i ≡ Some x) × AreAtIndex all (i + 1) xs

get_seam : (xs : List Sample) (y : Sample) (ys : List Sample) → slice_get (xs ++ y ∷ ys) (length xs) ≡ Some y
get_seam [] y ys = refl
get_seam (x ∷ xs) y ys = get_seam xs y ys

pub at_index : (all xs ys zs : List Sample) → all ≡ xs ++ (ys ++ zs) → AreAtIndex all (length xs) ys
at_index all xs [] zs is = tt
at_index all xs (y ∷ ys) zs is = (
  ap (λ (ws : List Sample). slice_get ws (length xs)) is ∙ get_seam xs y (ys ++ zs),
  subst (λ (n : ℕ). AreAtIndex all n ys) (length-append xs (y ∷ []))
      (at_index all (xs ++ y ∷ []) ys zs (is ∙ sym (append_assoc xs (y ∷ []) (ys ++ zs)))),
)

-- Runs in two parts

pub runs_append : (all : List Sample) (first later : List DatagramStep) (s mid t : Wire) → Runs all first s mid → Runs all later mid t → Runs all (first ++ later) s t
runs_append all [] later s mid t one rest = subst (λ (x : Wire). Runs all later x t) one rest
runs_append all (step ∷ first) later s mid t one rest = (one.0, one.1, runs_append all first later one.0 mid t one.2 rest)

pub each_append : (i : ℕ) (xs ys : List Sent) → send_each i (xs ++ ys) ≡ send_each i xs ++ send_each (i + length xs) ys
each_append i [] ys = ap (λ (n : ℕ). send_each n ys) (omega arith)
each_append i (x ∷ xs) ys =
    ap (λ (ss : List DatagramStep). seen.Send i ∷ ss) (each_append (i + 1) xs ys ∙ ap (λ (n : ℕ). send_each (i + 1) xs ++ send_each n ys) (omega arith))

-- The samples of one source, as the viewer gets them

module _ (e : Forward) (fits_type : e.settings.payload_type < 128) (fits_ssrc : e.settings.ssrc < 2 ^ 32) (rate : ℕ) (some : 0 < rate) (good : PacketizerState → Type 0) (stays : Stays good) (view : View)
    (is_view : IsView e good view) (first : Sending) (clock : first.stream.clock_rate ≡ rate) (front : List (List ℕ)) (skipped : ℕ) where
  -- what was sent in front of the source, and then the datagrams of the source, without the first ones
  abbrev pub shown : List (List ℕ) → List (List ℕ)
  shown ds = front ++ map (viewer_datagram e) (drop skipped ds)

  shown_more : (ds new es : List (List ℕ)) → skipped ≤ length ds → es ≡ ds ++ new → shown es ≡ shown ds ++ map (viewer_datagram e) new
  shown_more ds new es past is =
      ap shown is
      ∙ (ap (λ (xs : List (List ℕ)). front ++ map (viewer_datagram e) xs) (drop-append-le skipped ds new past)
      ∙ (ap (λ (xs : List (List ℕ)). front ++ xs) (map_append (viewer_datagram e) (drop skipped ds) new) ∙ sym (append_assoc front (map (viewer_datagram e) (drop skipped ds)) (map (viewer_datagram e) new))))

  -- one sample
  record SendsShown (x : Sent) (v mid : Sending) (ds es : List (List ℕ)) : Type 0 where
    left : Sending
    sends : SendsIt (viewer_sample e rate x.sample) v (shown ds) x.entry left (shown es)
    alike : Alike left (seen_sender view e mid)

  clock_at : (s : Sending) (ds : List (List ℕ)) → HasSent good stays first s ds → s.stream.clock_rate ≡ rate
  clock_at s ds has = ap (λ (o : Outgoing). o.clock_rate) has.stream ∙ clock

  send_shown : (x : Sent) (v s mid : Sending) (ds es : List (List ℕ)) → HasSent good stays first s ds → skipped ≤ length ds → Alike v (seen_sender view e s) → SendsIt x.sample s ds x.entry mid es
      → length (shown es) < 2 ^ 63 → SendsShown x v mid ds es
  send_shown x v s mid ds es has past alike sends few =
      let at : s.stream.clock_rate ≡ rate = clock_at s ds has in
      let seen_by = sends_it_too e fits_type fits_ssrc good view is_view x.sample s mid ds es x.entry has.packetizer (subst (λ (r : ℕ). 0 < r) (sym at) some) sends in
      let does = does_alike (sent_sample (viewer_sample e s.stream.clock_rate x.sample)) x.entry.fault v (seen_sender view e s) (seen_sender view e mid) alike seen_by.sends in
      let here : SendsIt (viewer_sample e s.stream.clock_rate x.sample) v (shown ds) x.entry does.left (shown es) = record {
        sends = does.does;
        gained = shown_more ds mid.datagrams es past sends.gained ∙ ap (λ (xs : List (List ℕ)). shown ds ++ xs) (sym does.datagrams);
        count = seen_by.count ∙ ap length (sym does.datagrams);
        few = few;
      } in
      record {
        left = does.left;
        sends = subst (λ (r : ℕ). SendsIt (viewer_sample e r x.sample) v (shown ds) x.entry does.left (shown es)) at here;
        alike = does.alike;
      }

  shown_few : (ds es : List (List ℕ)) → length ds ≤ length es → skipped ≤ length ds → length (shown es) < 2 ^ 63 → length (shown ds) < 2 ^ 63
  shown_few ds es up past few = omega (arith, up, past, few, count ds, count es)
    where
      count : (xs : List (List ℕ)) → length (shown xs) ≡ length front + (length xs - skipped)
      count xs = length-append front (map (viewer_datagram e) (drop skipped xs)) ∙ ap (λ (n : ℕ). length front + n) (length-map (drop skipped xs) (viewer_datagram e) ∙ length-drop skipped xs)

  -- All of them, of the samples `all` from one index on

  module _ (receiver : Session) (all : List Sample) where
    -- a run in which nothing was delivered yet
    abbrev pub quiet : Sending → List (List ℕ) → List SentSample → Wire
    quiet v ds entries = record { sending = v; session = receiver; datagrams = ds; sends = entries; receipts = []; pops = [] }

    pub record SendsPart (xs : List Sent) (i : ℕ) (v t : Sending) (ds es : List (List ℕ)) (entries : List SentSample) : Type 0 where
      pub left : Sending
      pub runs : Runs all (send_each i xs) (quiet v (shown ds) entries) (quiet left (shown es) (entries ++ entries_in xs))
      pub alike : Alike left (seen_sender view e t)

    pub send_part : (xs : List Sent) (i : ℕ) (v s t : Sending) (ds es : List (List ℕ)) (entries : List SentSample) → AreAtIndex all i (viewer_samples e rate (samples_in xs)) → HasSent good stays first s ds
        → skipped ≤ length ds → Alike v (seen_sender view e s) → SendsAll xs s ds t es → length (shown es) < 2 ^ 63 → SendsPart xs i v t ds es entries
    send_part [] i v s t ds es entries at has past alike sends few =
        let same : quiet v (shown es) (entries ++ []) ≡ quiet v (shown ds) entries =
        ap (λ (xs : List (List ℕ)). quiet v (shown xs) (entries ++ [])) sends.1 ∙ ap (quiet v (shown ds)) (append-nil entries) in
        record { left = v; runs = same; alike = subst (λ (y : Sending). Alike v (seen_sender view e y)) (sym sends.0) alike }
    send_part (x ∷ xs) i v s t ds es entries at has past alike sends few =
        let mid : Sending = sends.0 in
        let more : List (List ℕ) = sends.1 in
        let up : length more ≡ length ds + x.entry.count = one_count x s mid ds more sends.2 in
        let one : SendsShown x v mid ds more = send_shown x v s mid ds more has past alike sends.2 (shown_few more es (omega (arith, all_count xs mid t more es sends.3)) (omega (arith, up, past)) few) in
        let rest : SendsPart xs (i + 1) one.left t more es (entries ++ x.entry ∷ []) =
        send_part xs (i + 1) one.left mid t more es (entries ++ x.entry ∷ []) at.1 (sent_on good stays first x s mid ds more has sends.2) (omega (arith, up, past)) one.alike sends.3 few in
        record {
          left = rest.left;
          runs = (
            quiet one.left (shown more) (entries ++ x.entry ∷ []),
            rw at.0 (x.entry, one.sends, refl),
            subst (λ (ys : List SentSample). Runs all (send_each (i + 1) xs) (quiet one.left (shown more) (entries ++ x.entry ∷ [])) (quiet rest.left (shown es) ys)) (append_assoc entries (x.entry ∷ []) (entries_in xs)) rest.runs,
          );
          alike = rest.alike;
        }
