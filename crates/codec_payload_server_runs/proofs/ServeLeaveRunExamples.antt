-- A run of a media server that leaves a frame out, with these results, meets the premises.
use Rattle.std.specs.Global.{Vec}
use Rattle.std.proofs.Common.{◌≡◌, refl, sym, subst, ℕ, List, map}
use Rattle.codec_payload_base.specs.declared.wire.Codec.TheVariants as codecs
use Rattle.codec_payload_codec.specs.Depacketizers.{OpusDepacketizing, Vp8Depacketizing}
use Rattle.codec_payload_payloader.specs.Sending.{Sample}
use Rattle.codec_payload_session.specs.Ports.{new_session}
use Rattle.codec_payload_session_formats.specs.declared.formats.SessionSettings.{SessionSettings}
use Rattle.codec_payload_vp8.specs.declared.vp8.depacketizer.Vp8Depacketizer.{Vp8Depacketizer}
use Rattle.codec_payload_datagram_runs.specs.Releases.{AllComeFirst, received_steps}
use Rattle.codec_payload_datagram_runs.specs.WireRunExample.{frames_sent, one_each, opus_sender}
use Rattle.codec_payload_forward_runs.proofs.LeaveRunExamples as viewer
use Rattle.codec_payload_forward_runs.proofs.SettingsLemmas.{leave_run_keeps}
use Rattle.codec_payload_forward_runs.specs.ForwardRunExample.{forwarder_for, ids_sender, viewer_receiver}
use Rattle.codec_payload_forward_runs.specs.ForwardRuns.{Hops}
use Rattle.codec_payload_forward_runs.specs.LeaveReleases.{IsLeftOutWithinWindows, kept_sends_of, kept_steps_of}
use Rattle.codec_payload_forward_runs.specs.LeaveRunExample.{leave_answers, leave_before, leave_frames, leave_ids_before, leave_steps}
use Rattle.codec_payload_forward_runs.specs.declared.leave_run.LeaveStep.{LeaveStep}
use Rattle.codec_payload_server_runs.proofs.ServeRunExamples.{by_results}
use Rattle.codec_payload_server_runs.proofs.ServedLeavingReleases as served
use Rattle.codec_payload_server_runs.specs.ServeLeaveReleases.{leaving_steps_of}
use Rattle.codec_payload_server_runs.specs.ServeLeaveRunExample.{HasLeftOneOut, ServingLeavingOutCanBeMet, all_taken, serve_leave_steps, starts}
use Rattle.codec_payload_server_runs.specs.ServeLeaveRuns.{ServeLeaveRuns, left_as, step_of}
use Rattle.codec_payload_server_runs.specs.ServeRunExample.{sent_stream}
use Rattle.codec_payload_server_runs.specs.Serving.{Serving}
use Rattle.codec_payload_server_runs.specs.ServingReleases.{steps_behind}

are_left_out : (t : Serving Hops) → HasLeftOneOut t → leaving_steps_of sent_stream frames_sent serve_leave_steps t ≡ leave_steps
are_left_out t has =
    by_results (λ es rs ss. steps_behind left_as sent_stream frames_sent 0 (map step_of serve_leave_steps) es ss ≡ leave_steps) one_each leave_answers all_taken t.behind t.answers has refl

ids_left_out : (t : Serving Hops) → HasLeftOneOut t → leaving_steps_of sent_stream leave_frames serve_leave_steps t ≡ leave_steps
ids_left_out t has =
    by_results (λ es rs ss. steps_behind left_as sent_stream leave_frames 0 (map step_of serve_leave_steps) es ss ≡ leave_steps) one_each leave_answers all_taken t.behind t.answers has refl

is_within : (settings : SessionSettings) (no_media : Vec ℕ) (t : Serving Hops) → ServeLeaveRuns sent_stream frames_sent serve_leave_steps (starts settings (leave_before no_media)) t → HasLeftOneOut t
    → IsLeftOutWithinWindows frames_sent (leaving_steps_of sent_stream frames_sent serve_leave_steps t) (leave_before no_media) t.behind
is_within settings no_media t run has =
    let leaves = served.leaving sent_stream frames_sent serve_leave_steps opus_sender (forwarder_for codecs.Opus) (viewer_receiver OpusDepacketizing no_media) (new_session settings) t run (λ again. refl) in
    let kept = leave_run_keeps frames_sent (leaving_steps_of sent_stream frames_sent serve_leave_steps t) (leave_before no_media) t.behind leaves in
    subst (λ (steps : List LeaveStep). IsLeftOutWithinWindows frames_sent steps (leave_before no_media) t.behind) (sym (are_left_out t has)) (viewer.opus_meets no_media t.behind kept has.has)

ids_are_within : (settings : SessionSettings) (d : Vp8Depacketizer) (no_media : Vec ℕ) (t : Serving Hops)
    → ServeLeaveRuns sent_stream leave_frames serve_leave_steps (starts settings (leave_ids_before d no_media)) t → HasLeftOneOut t
    → IsLeftOutWithinWindows leave_frames (leaving_steps_of sent_stream leave_frames serve_leave_steps t) (leave_ids_before d no_media) t.behind
ids_are_within settings d no_media t run has =
    let leaves = served.leaving sent_stream leave_frames serve_leave_steps ids_sender (forwarder_for codecs.Vp8) (viewer_receiver (Vp8Depacketizing d) no_media) (new_session settings) t run (λ again. refl) in
    let kept = leave_run_keeps leave_frames (leaving_steps_of sent_stream leave_frames serve_leave_steps t) (leave_ids_before d no_media) t.behind leaves in
    subst (λ (steps : List LeaveStep). IsLeftOutWithinWindows leave_frames steps (leave_ids_before d no_media) t.behind) (sym (ids_left_out t has)) (viewer.ids_meet d no_media t.behind kept has.has)

all_comes : (t : Serving Hops) → HasLeftOneOut t
    → AllComeFirst 4096 2
    (received_steps frames_sent 0 (kept_steps_of frames_sent (leaving_steps_of sent_stream frames_sent serve_leave_steps t) t.behind)
    (kept_sends_of frames_sent (leaving_steps_of sent_stream frames_sent serve_leave_steps t) t.behind))
all_comes t has =
    subst (λ (steps : List LeaveStep). AllComeFirst 4096 2 (received_steps frames_sent 0 (kept_steps_of frames_sent steps t.behind) (kept_sends_of frames_sent steps t.behind))) (sym (are_left_out t has))
    (viewer.all_come t.behind has.has)

pub can_be_met : ServingLeavingOutCanBeMet
can_be_met = record { unwraps = λ settings no_media has. refl; within = is_within; all_come = all_comes; ids_within = ids_are_within; are_left_out = are_left_out }
