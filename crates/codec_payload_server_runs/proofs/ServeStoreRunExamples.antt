-- A run of a media server with a store, and with these results, meets the premises.
use Rattle.std.specs.Global.{Vec}
use Rattle.std.proofs.Common.{◌≡◌, refl, sym, subst, ℕ, List, [], ◌∷◌, map}
use Rattle.codec_payload_session.specs.Ports.{new_session}
use Rattle.codec_payload_session_formats.specs.declared.formats.SessionSettings.{SessionSettings}
use Rattle.codec_payload_datagram_runs.specs.Releases.{AllComeFirst, received_steps}
use Rattle.codec_payload_datagram_runs.specs.WireRunExample.{frames_sent, one_each, opus_sender}
use Rattle.codec_payload_forward_runs.proofs.StoreRunExamples as viewer
use Rattle.codec_payload_forward_runs.proofs.ViewerLemmas.{GoesOn}
use Rattle.codec_payload_forward_runs.proofs.StoreReleaseLemmas.{on}
use Rattle.codec_payload_forward_runs.specs.ForwardRunExample.{three_answers}
use Rattle.codec_payload_forward_runs.specs.StoreReleases.{IsStoredWithinWindows, store_steps_of}
use Rattle.codec_payload_forward_runs.specs.StoreRunExample.{again_before, again_forwarder, again_receiver, empty_store, store_run_steps}
use Rattle.codec_payload_forward_runs.specs.StoreRuns.{Stored}
use Rattle.codec_payload_forward_runs.specs.declared.store_run.StoreStep.{StoreStep}
use Rattle.codec_payload_server_runs.proofs.ServeRunExamples.{by_results}
use Rattle.codec_payload_server_runs.proofs.ServedStoreReleases as served
use Rattle.codec_payload_server_runs.specs.ServeRunExample.{sent_stream}
use Rattle.codec_payload_server_runs.specs.ServeStoreReleases.{stored_steps_of}
use Rattle.codec_payload_server_runs.specs.ServeStoreRunExample.{HasStoredOne, ServingWithStoreCanBeMet, serve_store_steps, store_before, three_taken}
use Rattle.codec_payload_server_runs.specs.ServeStoreRuns.{ServeStoreRuns, step_of, stored_as}
use Rattle.codec_payload_server_runs.specs.Serving.{Serving}
use Rattle.codec_payload_server_runs.specs.ServingReleases.{steps_behind}

are_stored : (t : Serving Stored) → HasStoredOne t → stored_steps_of sent_stream frames_sent serve_store_steps t ≡ store_run_steps
are_stored t has =
    by_results (λ es rs ss. steps_behind stored_as sent_stream frames_sent 0 (map step_of serve_store_steps) es ss ≡ store_run_steps) one_each three_answers three_taken t.behind.hops t.answers has.0 refl

is_within : (settings : SessionSettings) (no_media : Vec ℕ) (t : Serving Stored) → ServeStoreRuns sent_stream frames_sent serve_store_steps (store_before settings no_media) t → HasStoredOne t
    → IsStoredWithinWindows frames_sent (stored_steps_of sent_stream frames_sent serve_store_steps t) (store_before settings no_media).behind t.behind (1 ∷ [])
is_within settings no_media t run has =
    let stores = served.storing sent_stream frames_sent serve_store_steps opus_sender again_forwarder (again_receiver no_media) empty_store (new_session settings) t run (λ again. refl) in
    let goes : GoesOn 7 again_forwarder t.behind.hops.forwarder =
    on frames_sent (stored_steps_of sent_stream frames_sent serve_store_steps t) opus_sender again_forwarder (again_receiver no_media) empty_store t.behind refl stores viewer.forwards_stream in
    subst (λ (steps : List StoreStep). IsStoredWithinWindows frames_sent steps (store_before settings no_media).behind t.behind (1 ∷ [])) (sym (are_stored t has))
    (viewer.meets no_media t.behind goes.settings has.0.has has.1)

all_comes : (t : Serving Stored) → HasStoredOne t
    → AllComeFirst 4096 3 (received_steps frames_sent 0 (store_steps_of frames_sent (stored_steps_of sent_stream frames_sent serve_store_steps t) t.behind (1 ∷ [])) t.behind.hops.wire.sends)
all_comes t has =
    subst (λ (steps : List StoreStep). AllComeFirst 4096 3 (received_steps frames_sent 0 (store_steps_of frames_sent steps t.behind (1 ∷ [])) t.behind.hops.wire.sends)) (sym (are_stored t has))
    (viewer.all_come t.behind has.0.has has.1)

pub can_be_met : ServingWithStoreCanBeMet
can_be_met = record {
  unwraps = λ settings no_media has. refl;
  empty = λ settings no_media. refl;
  forwards = viewer.forwards_stream;
  within = is_within;
  all_come = all_comes;
  are_stored = are_stored;
}
