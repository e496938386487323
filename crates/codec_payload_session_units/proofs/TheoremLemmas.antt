-- The theorem, for a stream that a session has, or had until it ended.
use Rattle.std.proofs.Common.{◌≡◌, ◌∙◌, refl, sym, ap, subst, List, [], ◌∷◌, ◌++◌, true}
use Rattle.codec_payload_buffer_runs.specs.Schedule.{Answer}
use Rattle.codec_payload_datagram_runs.specs.Releases.{AreOfOneStream}
use Rattle.codec_payload_receiver.specs.Sessions.{Session as Receiver}
use Rattle.codec_payload_session.specs.Ports.{Session, new_session}
use Rattle.codec_payload_session_formats.specs.declared.formats.SessionSettings.{SessionSettings}
use Rattle.codec_payload_session_stream.specs.declared.stream.StreamState.{StreamState}
use Rattle.codec_payload_session_runs.proofs.ReachedLemmas.{each_ended, reached, runs_split}
use Rattle.codec_payload_session_runs.specs.Lives.{EachIsAlone, EndedAlone, ReceiverCall, ending_poll, events_of, waits_for}
use Rattle.codec_payload_session_runs.specs.SessionRuns.{Call, Runs}
use Rattle.codec_payload_edges.specs.OwnSenders.{Vp8SendsInOrder, Vp9SendsInOrder}
use Rattle.codec_payload_edges.specs.Senders.{FindsNothing}
use Rattle.codec_payload_session_units.specs.OneSender.{IsOneSenders, answers_by}
use Rattle.codec_payload_session_units.specs.StreamUnits.{AllStreamsReleaseUnits, EachReleasesUnits, EndedStreamsReleaseUnits, KeepsPromises, StreamsReleaseUnits, answered, units_told}
use Rattle.codec_payload_session_units.proofs.BeginLemmas.{HasBegun, has_begun}
use Rattle.codec_payload_session_units.proofs.ShownLemmas.{shown_answers}
use Rattle.codec_payload_session_units.proofs.TellLemmas.{projects_typed, run_told, projects_follow}
use Rattle.codec_payload_session_units.proofs.UnitLemmas.{keeps_all}

pub release_units : FindsNothing → Vp8SendsInOrder → Vp9SendsInOrder → StreamsReleaseUnits
release_units nothing vp8 vp9 settings calls s run ssrc f announced r alone o =
    let own : List ReceiverCall = alone.own in
    let q : Receiver = alone.fresh.receiver in
    let split = runs_split alone.before alone.during (new_session settings) s (subst (λ (cs : List Call). Runs cs (new_session settings) s) alone.whole run) in
    let told : answered (answers_by own) ≡ units_told (events_of ssrc f.payload_type alone.during) =
    sym (shown_answers own) ∙ (ap answers_by alone.shows ∙ run_told ssrc f.payload_type alone.during split.0 s split.2) in
    let b : HasBegun settings f o.sender q = has_begun settings alone.reached.settings ssrc f o.sender alone.fresh alone.pairs_alone o.sender_for alone.begins in
    let typed = projects_typed ssrc f (waits_for settings ssrc f) alone.during own alone.projects in
    let each = projects_follow ssrc f (waits_for settings ssrc f) alone.during own alone.projects in
    subst (λ (answers : List Answer). KeepsPromises o answers own q r) told
    (subst (λ (gave : List ReceiverCall). (x : IsOneSenders settings ssrc f gave) → AreOfOneStream x.sender b.given b.depacketizer → KeepsPromises x (answered (answers_by own)) own q r) alone.shows
    (λ x one. keeps_all settings ssrc f own x q r b.given b.depacketizer b.is one typed alone.alone nothing vp8 vp9 each alone.edges alone.edged) o b.one_stream)

each_of : FindsNothing → Vp8SendsInOrder → Vp9SendsInOrder → (settings : SessionSettings) (calls : List Call) (s : Session) → Runs calls (new_session settings) s → (ss : List StreamState) → EachIsAlone settings calls ss → EachReleasesUnits settings calls ss
each_of nothing vp8 vp9 settings calls s run [] each = tt
each_of nothing vp8 vp9 settings calls s run (x ∷ ss) each = ((each.0, release_units nothing vp8 vp9 settings calls s run x.ssrc x.format x.announced x.receiver each.0), each_of nothing vp8 vp9 settings calls s run ss each.1)

pub each_releases : FindsNothing → Vp8SendsInOrder → Vp9SendsInOrder → AllStreamsReleaseUnits
each_releases nothing vp8 vp9 settings calls s run = each_of nothing vp8 vp9 settings calls s run s.port.streams (reached settings calls s run).alone

pub ended_releases : FindsNothing → Vp8SendsInOrder → Vp9SendsInOrder → EndedStreamsReleaseUnits
ended_releases nothing vp8 vp9 settings before after now ssrc payload_type why s run =
    let ended : EndedAlone settings before now ssrc payload_type why = each_ended settings (before ++ ending_poll now ssrc payload_type why ∷ after) s run before after now ssrc payload_type why refl in
    let split = runs_split before (ending_poll now ssrc payload_type why ∷ after) (new_session settings) s run in
    (ended, release_units nothing vp8 vp9 settings before split.0 split.1 ssrc ended.format true ended.receiver ended.alone)
