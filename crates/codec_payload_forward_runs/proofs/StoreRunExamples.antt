-- A run with a forwarder and a store, and with these results, meets the premises.
use Rattle.std.specs.Global.{Vec}
use Rattle.std.proofs.Common.{◌≡◌, ◌∙◌, refl, sym, subst, ℕ, zero, suc, ◌<◌, Bool, true, List, [], ◌∷◌, inr, length, map, arith, lit<, lit≤}
use Rattle.std.proofs.lemmas.List.{length-map}
use Rattle.std.specs.Prelude.{Contains}
use Rattle.codec_payload_codec.specs.Depacketizers.{OpusDepacketizing}
use Rattle.codec_payload_sending_forward.specs.Forwarding.{Forward}
use Rattle.codec_payload_sending_forward.specs.declared.forwarder.Forwarded.{Forwarded}
use Rattle.codec_payload_datagram_runs.specs.Releases.{AllComeFirst, AreOfOneStream, ComeTimely, ComeWithin, ReleasesUnits, delivered, received_steps, times_sent}
use Rattle.codec_payload_datagram_runs.specs.WireRunExample.{at, frames_sent, one_each, opus_sender}
use Rattle.codec_payload_datagram_runs.specs.declared.run.DatagramStep.{DatagramStep}
use Rattle.codec_payload_datagram_runs.specs.declared.run.DatagramStep.TheVariants as seen
use Rattle.codec_payload_datagram_runs.specs.declared.run.SentSample.{SentSample}
use Rattle.codec_payload_forward_runs.proofs.ForwardRunExamples as viewer
use Rattle.codec_payload_forward_runs.proofs.StoreReleaseLemmas.{on}
use Rattle.codec_payload_forward_runs.proofs.ViewerLemmas.{GoesOn}
use Rattle.codec_payload_forward_runs.specs.ForwardReleases.{ForwardsStream, viewer_datagram, viewer_samples, viewer_sender, viewer_wire}
use Rattle.codec_payload_forward_runs.specs.ForwardRunExample.{HasResults, three_answers}
use Rattle.codec_payload_forward_runs.specs.StoreReleases.{IsStoredWithinWindows, ReleasesFromStore, store_steps, store_steps_of}
use Rattle.codec_payload_forward_runs.specs.StoreRunExample.{PopsAllAgain, StoreCanBeMet, again_before, again_forwarder, again_receiver, again_settings, again_steps, again_viewer, empty_store, store_run_steps}
use Rattle.codec_payload_forward_runs.specs.StoreRuns.{StoreRuns, Stored}

pub forwards_stream : ForwardsStream opus_sender again_forwarder
forwards_stream = record { none_left_out = λ on. refl; none_closed = λ moves on. refl }

-- the steps of the viewer, with these results
abbrev steps_by : List SentSample → List Forwarded → List Bool → List ℕ → List DatagramStep
steps_by sends answers found repeats = store_steps frames_sent 0 [] [] store_run_steps sends answers found repeats

-- behind a forwarder with these settings
one_stream : (no_media : Vec ℕ) (e : Forward) → e.settings ≡ again_settings → AreOfOneStream (viewer_sender e opus_sender) (again_viewer no_media) OpusDepacketizing
one_stream no_media e is = rw is (record {
  built_in = refl;
  alike = refl;
  nothing_read = refl;
  clock_rate = refl;
  payload_type = refl;
  not_rtcp = inr (lit< tt);
  ssrc = refl;
  not_again = refl;
  drops_none = refl;
})

-- what arrives is within the windows, and timely
abbrev Arrives : List SentSample → List Forwarded → List Bool → List ℕ → Type 0
Arrives sends answers found repeats =
    ComeWithin 3000 1000 (delivered (received_steps frames_sent 0 (steps_by sends answers found repeats) sends))
    × ComeTimely 48000 (times_sent 48000 frames_sent (steps_by sends answers found repeats) sends) (delivered (received_steps frames_sent 0 (steps_by sends answers found repeats) sends))

arrives : Arrives one_each three_answers (true ∷ []) (1 ∷ [])
arrives = ((lit< tt, (lit< tt, lit≤ tt, (lit< tt, lit≤ tt, tt))), (λ l. absurd (omega (arith, l)), (λ l. absurd (omega (arith, l)), tt)))

-- the same of a run with these results
module _ (sends : List SentSample) (answers : List Forwarded) (found : List Bool) (repeats : List ℕ) (e1 : sends ≡ one_each) (e2 : answers ≡ three_answers) (e3 : found ≡ true ∷ []) (e4 : repeats ≡ 1 ∷ []) where
  arrives_by : Arrives sends answers found repeats
  arrives_by =
      subst (λ (x : List SentSample). Arrives x answers found repeats) (sym e1)
      (subst (λ (x : List Forwarded). Arrives one_each x found repeats) (sym e2)
      (subst (λ (x : List Bool). Arrives one_each three_answers x repeats) (sym e3)
      (subst (λ (x : List ℕ). Arrives one_each three_answers (true ∷ []) x) (sym e4) arrives)))

abbrev before_end : List DatagramStep
before_end = seen.Deliver 0 (at 40) ∷ seen.Deliver 2 (at 80) ∷ seen.Deliver 1 (at 120) ∷ []

each_comes : (k : ℕ) → k < 3 → Contains (delivered before_end) k
each_comes zero l = (0, omega arith, refl)
each_comes (suc zero) l = (2, omega arith, refl)
each_comes (suc (suc zero)) l = (1, omega arith, refl)
each_comes (suc (suc (suc k))) l = absurd (omega (arith, l))

-- for the samples of the run, and for those at the viewer's times
all_first : AllComeFirst 4096 3 (received_steps frames_sent 0 (steps_by one_each three_answers (true ∷ []) (1 ∷ [])) one_each)
all_first = record {
  few = lit≤ tt;
  before = before_end;
  after = seen.Pop (at 121) ∷ seen.Pop (at 121) ∷ seen.Pop (at 121) ∷ [];
  whole = refl;
  no_pops = tt;
  each = each_comes;
}

viewer_first : (e : Forward) → AllComeFirst 4096 3 (received_steps (viewer_samples e 48000 frames_sent) 0 (steps_by one_each three_answers (true ∷ []) (1 ∷ [])) one_each)
viewer_first e = record {
  few = lit≤ tt;
  before = before_end;
  after = seen.Pop (at 121) ∷ seen.Pop (at 121) ∷ seen.Pop (at 121) ∷ [];
  whole = refl;
  no_pops = tt;
  each = each_comes;
}

-- the premises, of a run with these results
is_within : (no_media : Vec ℕ) (t : Stored) (repeats : List ℕ) → t.hops.forwarder.settings ≡ again_settings → t.hops.wire.sends ≡ one_each → t.hops.answers ≡ three_answers → t.found ≡ true ∷ []
    → repeats ≡ 1 ∷ [] → IsStoredWithinWindows frames_sent store_run_steps (again_before no_media) t repeats
is_within no_media t repeats settings e1 e2 e3 e4 =
    let a = arrives_by t.hops.wire.sends t.hops.answers t.found repeats e1 e2 e3 e4 in
    record {
      forwards = forwards_stream;
      of_codec = refl;
      widths = record { clock_rate = lit< tt; payload_type = lit< tt; ssrc = lit< tt };
      settings = again_viewer no_media;
      depacketizer = OpusDepacketizing;
      new = refl;
      one_stream = one_stream no_media t.hops.forwarder settings;
      heard = (refl, inr (lit< tt));
      readable = (refl, (refl, (refl, tt)));
      within = a.0;
      timely = a.1;
    }

pops_all : (no_media : Vec ℕ) (t : Stored) → StoreRuns frames_sent store_run_steps (again_before no_media) t → t.hops.wire.sends ≡ one_each → length t.hops.wire.datagrams ≡ 3
    → t.hops.answers ≡ three_answers → t.found ≡ true ∷ []
    → (released : ReleasesFromStore frames_sent store_run_steps (again_before no_media) t) → released.repeats ≡ 1 ∷ [] → PopsAllAgain (again_before no_media) t
pops_all no_media t run e1 count e2 e3 released e4 =
    let e : Forward = t.hops.forwarder in
    let goes : GoesOn 7 again_forwarder e = on frames_sent store_run_steps opus_sender again_forwarder (again_receiver no_media) empty_store t refl run forwards_stream in
    let r = released.released (is_within no_media t released.repeats goes.settings e1 e2 e3 e4) in
    let two : AllComeFirst 4096 3 (received_steps (viewer_samples e 48000 frames_sent) 0 (steps_by t.hops.wire.sends t.hops.answers t.found (1 ∷ [])) t.hops.wire.sends) =
    subst (λ (x : List SentSample). AllComeFirst 4096 3 (received_steps (viewer_samples e 48000 frames_sent) 0 (steps_by x t.hops.answers t.found (1 ∷ [])) x)) (sym e1)
    (subst (λ (x : List Forwarded). AllComeFirst 4096 3 (received_steps (viewer_samples e 48000 frames_sent) 0 (steps_by one_each x t.found (1 ∷ [])) one_each)) (sym e2)
    (subst (λ (x : List Bool). AllComeFirst 4096 3 (received_steps (viewer_samples e 48000 frames_sent) 0 (steps_by one_each three_answers x (1 ∷ [])) one_each)) (sym e3) (viewer_first e))) in
    let few : length (map (viewer_datagram e) t.hops.wire.datagrams) ≡ 3 = length-map t.hops.wire.datagrams (viewer_datagram e) ∙ count in
    let all : AllComeFirst 4096 (length (map (viewer_datagram e) t.hops.wire.datagrams)) (received_steps (viewer_samples e 48000 frames_sent) 0 (steps_by t.hops.wire.sends t.hops.answers t.found (1 ∷ [])) t.hops.wire.sends) =
    subst (λ (n : ℕ). AllComeFirst 4096 n (received_steps (viewer_samples e 48000 frames_sent) 0 (steps_by t.hops.wire.sends t.hops.answers t.found (1 ∷ [])) t.hops.wire.sends)) (sym few) two in
    let own : ReleasesUnits (viewer_samples e 48000 frames_sent) (again_steps t) (viewer_wire e (again_before no_media).hops.wire) (viewer_wire e t.hops.wire) =
    subst (λ (x : List ℕ). ReleasesUnits (viewer_samples e 48000 frames_sent) (store_steps_of frames_sent store_run_steps t x) (viewer_wire e (again_before no_media).hops.wire) (viewer_wire e t.hops.wire)) e4 r in
    (own, own.exactly all)

-- what is said of a run with these results
by_results : (P : List SentSample → List Forwarded → List Bool → Type 0) (t : Stored) → HasResults one_each three_answers t.hops → t.found ≡ true ∷ [] → P one_each three_answers (true ∷ [])
    → P t.hops.wire.sends t.hops.answers t.found
by_results P t has found here = viewer.by_results (λ es rs. P es rs t.found) one_each three_answers t.hops has (subst (P one_each three_answers) (sym found) here)

pub meets : (no_media : Vec ℕ) (t : Stored) → t.hops.forwarder.settings ≡ again_settings → HasResults one_each three_answers t.hops → t.found ≡ true ∷ []
    → IsStoredWithinWindows frames_sent store_run_steps (again_before no_media) t (1 ∷ [])
meets no_media t settings has found = is_within no_media t (1 ∷ []) settings has.sent has.answers found refl

pub keeps_settings : (no_media : Vec ℕ) (t : Stored) → StoreRuns frames_sent store_run_steps (again_before no_media) t → t.hops.forwarder.settings ≡ again_settings
keeps_settings no_media t run =
    let goes : GoesOn 7 again_forwarder t.hops.forwarder = on frames_sent store_run_steps opus_sender again_forwarder (again_receiver no_media) empty_store t refl run forwards_stream in
    goes.settings

pub all_come : (t : Stored) → HasResults one_each three_answers t.hops → t.found ≡ true ∷ [] → AllComeFirst 4096 3 (received_steps frames_sent 0 (again_steps t) t.hops.wire.sends)
all_come t has found = by_results (λ es rs fs. AllComeFirst 4096 3 (received_steps frames_sent 0 (steps_by es rs fs (1 ∷ [])) es)) t has found all_first

are_delivered : (t : Stored) → HasResults one_each three_answers t.hops → t.found ≡ true ∷ [] → delivered (received_steps frames_sent 0 (again_steps t) t.hops.wire.sends) ≡ 0 ∷ 2 ∷ 1 ∷ []
are_delivered t has found = by_results (λ es rs fs. delivered (received_steps frames_sent 0 (steps_by es rs fs (1 ∷ [])) es) ≡ 0 ∷ 2 ∷ 1 ∷ []) t has found refl

pub can_be_met : StoreCanBeMet
can_be_met = record {
  empty = refl;
  forwards = forwards_stream;
  within = λ no_media t run has found. meets no_media t (keeps_settings no_media t run) has found;
  all_come = all_come;
  are_delivered = are_delivered;
  all_popped = pops_all;
}
