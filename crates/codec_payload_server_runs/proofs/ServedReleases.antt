-- What a run of a media server states, from the theorems on runs of a session and on runs with a forwarder.
use Rattle.std.proofs.Common.{◌≡◌, ◌∙◌, sym, subst, List}
use Rattle.codec_payload_payloader.specs.Sending.{Sample}
use Rattle.codec_payload_receiver.specs.Sessions.{Session as Receiver}
use Rattle.codec_payload_sending.specs.Senders.{Sending}
use Rattle.codec_payload_sending_forward.specs.Forwarding.{Forward}
use Rattle.codec_payload_sending_history.specs.declared.original.OriginalStream.{OriginalStream}
use Rattle.codec_payload_session.specs.Ports.{Session, new_session}
use Rattle.codec_payload_session_formats.specs.declared.formats.SessionSettings.{SessionSettings}
use Rattle.codec_payload_datagram_runs.specs.declared.run.SentSample.{SentSample}
use Rattle.codec_payload_forward_runs.proofs.ForwardLemmas.{packets_forwarded, promises_forwarded, release_forwarded}
use Rattle.codec_payload_session_runs.proofs.ReachedLemmas.{each_ended, reached}
use Rattle.codec_payload_session_runs.specs.SessionRuns.{Runs}
use Rattle.codec_payload_server_runs.proofs.ServeLemmas.{Splits, forwarded_run, parts}
use Rattle.codec_payload_server_runs.specs.ServeReleases.{AreCalls, KeepsPromisesServed, ReleasesServed, ServesAsSession, ServesPackets, forwarded_steps_of}
use Rattle.codec_payload_server_runs.specs.ServeRuns.{ServeRuns, Served, begins_serving}
use Rattle.codec_payload_server_runs.specs.declared.run.ServeStep.{ServeStep}

pub packets_served : (stream : OriginalStream) (samples : List Sample) (all_steps : List ServeStep) (sender : Sending) (forwarder : Forward) (receiver : Receiver) (server : Session) (t : Served)
    → ServeRuns stream samples all_steps (begins_serving sender forwarder receiver server) t → ServesPackets stream samples all_steps (begins_serving sender forwarder receiver server) t
packets_served stream samples all_steps sender forwarder receiver server t run own =
    packets_forwarded samples (forwarded_steps_of stream samples all_steps t) sender forwarder receiver t.hops (forwarded_run stream samples all_steps sender forwarder receiver server t run own)

pub release_served : (stream : OriginalStream) (samples : List Sample) (all_steps : List ServeStep) (sender : Sending) (forwarder : Forward) (receiver : Receiver) (server : Session) (t : Served)
    → ServeRuns stream samples all_steps (begins_serving sender forwarder receiver server) t → ReleasesServed stream samples all_steps (begins_serving sender forwarder receiver server) t
release_served stream samples all_steps sender forwarder receiver server t run own =
    release_forwarded samples (forwarded_steps_of stream samples all_steps t) sender forwarder receiver t.hops (forwarded_run stream samples all_steps sender forwarder receiver server t run own)

pub promises_served : (stream : OriginalStream) (samples : List Sample) (all_steps : List ServeStep) (sender : Sending) (forwarder : Forward) (receiver : Receiver) (server : Session) (t : Served)
    → ServeRuns stream samples all_steps (begins_serving sender forwarder receiver server) t → KeepsPromisesServed stream samples all_steps (begins_serving sender forwarder receiver server) t
promises_served stream samples all_steps sender forwarder receiver server t run own =
    promises_forwarded samples (forwarded_steps_of stream samples all_steps t) sender forwarder receiver t.hops (forwarded_run stream samples all_steps sender forwarder receiver server t run own)

pub served_session : (stream : OriginalStream) (samples : List Sample) (all_steps : List ServeStep) (sender : Sending) (forwarder : Forward) (receiver : Receiver) (server : Session) (t : Served)
    → ServeRuns stream samples all_steps (begins_serving sender forwarder receiver server) t → ServesAsSession stream samples all_steps (begins_serving sender forwarder receiver server) t
served_session stream samples all_steps sender forwarder receiver server t run =
    let p : Splits stream samples 0 all_steps (begins_serving sender forwarder receiver server) t = parts stream samples all_steps sender forwarder receiver server t run in
    record {
      made = p.made;
      are = subst (λ (es : List SentSample). AreCalls stream samples t.hops.wire.datagrams 0 all_steps es p.made) (sym p.sends) p.are;
      answered = p.answered ∙ sym p.told;
      runs = p.runs;
      alone = λ settings is. (reached settings p.made t.server (subst (λ (x : Session). Runs p.made x t.server) is p.runs)).alone;
      ended = λ settings is. each_ended settings p.made t.server (subst (λ (x : Session). Runs p.made x t.server) is p.runs);
      order = λ settings is. (reached settings p.made t.server (subst (λ (x : Session). Runs p.made x t.server) is p.runs)).order;
    }
