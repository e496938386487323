-- What a sender of samples sends, as a run over datagrams that only sends.
use Rattle.std.proofs.Common.{◌≡◌, ◌∙◌, refl, sym, ap, subst, ℕ, suc, ◌^◌, ◌<◌, List, [], ◌∷◌, ◌++◌, Option, Some, None, Ok, MatchOption, length, arith, append_assoc, append-nil}
use Rattle.std.specs.Prelude.{slice_get}
use Rattle.std.proofs.lemmas.List.{length-append}
use Rattle.codec_payload_buffer_runs.proofs.units.BuiltInRuns.{plainly, unused_exactly}
use Rattle.codec_payload_buffer_runs.proofs.units.StreamLemmas.{streams}
use Rattle.codec_payload_buffer_runs.specs.Headline.{IsUnused}
use Rattle.codec_payload_buffer_runs.specs.Schedule.{RunState}
use Rattle.codec_payload_datagram_runs.proofs.Courses.{proceeds}
use Rattle.codec_payload_datagram_runs.proofs.ReleaseLemmas.{SendsFrom, starts_unused}
use Rattle.codec_payload_datagram_runs.proofs.SendingLemmas.{SendsRun, running, sends_run}
use Rattle.codec_payload_datagram_runs.specs.Releases.{AreOfOneStream, sending_steps, times_sent}
use Rattle.codec_payload_datagram_runs.specs.WireRuns.{Runs, SendsIt, SendsOrRefuses, Wire, begins, sent_sample}
use Rattle.codec_payload_datagram_runs.specs.declared.run.SentSample.{SentSample}
use Rattle.codec_payload_codec.specs.Depacketizers.{DepacketizerState}
use Rattle.codec_payload_payloader.specs.Sending.{Sample}
use Rattle.codec_payload_receiver.specs.Sessions.{Session as Receiver, session_by}
use Rattle.codec_payload_receiver.specs.declared.receiver.Settings.{Settings}
use Rattle.codec_payload_sending.specs.Senders.{Sending}
use Rattle.codec_payload_session_units.specs.OneSender.{SendsAll, sends_from, sends_of}

get_behind : (pre : List Sample) (x : Sample) (xs : List Sample) → slice_get (pre ++ x ∷ xs) (length pre) ≡ Some x
get_behind [] x xs = refl
get_behind (p ∷ pre) x xs = get_behind pre x xs

-- the run that sends the remaining samples
record SentRun (all : List Sample) (n : ℕ) (samples : List Sample) (entries : List SentSample) (datagrams : List (List ℕ)) (w : Wire) : Type 0 where
  after : Wire
  run : Runs all (sends_from n samples) w after
  sent : after.datagrams ≡ w.datagrams ++ datagrams
  sends : after.sends ≡ w.sends ++ entries
  session : after.session ≡ w.session

sent_run : (all pre samples : List Sample) (s : Sending) (entries : List SentSample) (datagrams : List (List ℕ)) (w : Wire) → all ≡ pre ++ samples → w.sending ≡ s
    → length (w.datagrams ++ datagrams) < 2 ^ 63 → SendsAll samples s entries datagrams → SentRun all (length pre) samples entries datagrams w
sent_run all pre [] s [] datagrams w whole at few sends = record {
  after = w;
  run = refl;
  sent = sym (append-nil w.datagrams) ∙ ap (λ (ds : List (List ℕ)). w.datagrams ++ ds) (sym sends);
  sends = sym (append-nil w.sends);
  session = refl;
}
sent_run all pre [] s (entry ∷ entries) datagrams w whole at few sends = absurd sends
sent_run all pre (sample ∷ samples) s [] datagrams w whole at few sends = absurd sends
sent_run all pre (sample ∷ samples) s (entry ∷ entries) datagrams w whole at few sends =
    let t : Sending = sends.0 in
    let more : List (List ℕ) = sends.1 in
    let mid : Wire = record w { sending = t; datagrams = w.datagrams ++ t.datagrams; sends = w.sends ++ entry ∷ [] } in
    let joined : w.datagrams ++ datagrams ≡ mid.datagrams ++ more =
    ap (λ (ds : List (List ℕ)). w.datagrams ++ ds) sends.4 ∙ sym (append_assoc w.datagrams t.datagrams more) in
    let few_then : length (mid.datagrams ++ more) < 2 ^ 63 = subst (λ (ds : List (List ℕ)). length ds < 2 ^ 63) joined few in
    let few_now : length mid.datagrams < 2 ^ 63 = omega (arith, few_then, length-append mid.datagrams more) in
    let there : slice_get all (length pre) ≡ Some sample = ap (λ (xs : List Sample). slice_get xs (length pre)) whole ∙ get_behind pre sample samples in
    let does : SendsIt sample w.sending w.datagrams entry mid.sending mid.datagrams = record {
      sends = subst (λ (x : Sending). SendsOrRefuses (sent_sample sample) x entry.fault t) (sym at) sends.2;
      gained = refl;
      count = sends.3;
      few = few_now;
    } in
    let next : length (pre ++ sample ∷ []) ≡ suc (length pre) = omega (arith, length-append pre (sample ∷ [])) in
    let rest : SentRun all (suc (length pre)) samples entries more mid =
    subst (λ (n : ℕ). SentRun all n samples entries more mid) next
    (sent_run all (pre ++ sample ∷ []) samples t entries more mid (whole ∙ sym (append_assoc pre (sample ∷ []) samples)) refl few_then sends.5) in
    record {
      after = rest.after;
      run = (
        mid,
        subst (λ (o : Option Sample). MatchOption o (mid ≡ w) (λ x. (e : SentSample) × SendsIt x w.sending w.datagrams e mid.sending mid.datagrams
            × (mid ≡ record w { sending = mid.sending; datagrams = mid.datagrams; sends = w.sends ++ e ∷ [] }))) (sym there) (entry, does, refl),
        rest.run,
      );
      sent = rest.sent ∙ sym joined;
      sends = rest.sends ∙ append_assoc w.sends (entry ∷ []) entries;
      session = rest.session;
    }

-- what a sender of samples sent
pub record Sent (samples : List Sample) (entries : List SentSample) (datagrams : List (List ℕ)) (sender : Sending) (receiver : Receiver) : Type 0 where
  pub wire : Wire
  pub datagrams_are : wire.datagrams ≡ datagrams
  pub entries_are : wire.sends ≡ entries
  pub packets_from : SendsFrom samples (sends_of samples) sender receiver wire

pub all_sent : (samples : List Sample) (entries : List SentSample) (datagrams : List (List ℕ)) (sender : Sending) (receiver : Receiver) (settings : Settings) (depacketizer : DepacketizerState)
    → session_by settings depacketizer ≡ Ok receiver → AreOfOneStream sender settings depacketizer → length datagrams < 2 ^ 63 → SendsAll samples sender entries datagrams
    → Sent samples entries datagrams sender receiver
all_sent samples entries datagrams sender receiver settings depacketizer new one_stream few sends = record {
  wire = made.after;
  datagrams_are = made.sent;
  entries_are = made.sends;
  packets_from = from;
}
  where
    made : SentRun samples 0 samples entries datagrams (begins sender receiver)
    made = sent_run samples [] samples sender entries datagrams (begins sender receiver) refl refl few sends

    from : SendsFrom samples (sends_of samples) sender receiver made.after
    from start small same =
        let t : Wire = made.after in
        let runs : SendsRun receiver.packets.buffer sender.stream sender.mtu start 0 samples (sends_of samples) (begins sender receiver) t [] =
        sends_run receiver.packets.buffer sender.stream sender.mtu start small samples None 0 (sends_of samples) (begins sender receiver) t []
        (record { mtu = refl; built_in = one_stream.built_in; kept = refl; number = same; reads = tt; numbered = tt; few = omega arith })
        (proceeds None samples (sends_of samples) (begins sender receiver) t made.run) in
        let before : RunState = running receiver.packets.buffer start sender.stream.clock_rate sender [] in
        let after : RunState = running receiver.packets.buffer start sender.stream.clock_rate t.sending runs.all in
        let unused : IsUnused before = starts_unused settings depacketizer sender receiver start new one_stream in
        record {
          all = runs.all;
          reads = runs.at.reads;
          numbered = runs.at.numbered;
          few = runs.at.few;
          times = runs.times ∙ ap (times_sent sender.stream.clock_rate samples (sends_of samples)) (sym runs.sends_are);
          end = t.sending;
          stream = streams plainly samples 0 (sending_steps sender.mtu (sends_of samples)) before after runs.entries [] (unused_exactly samples (sending_steps sender.mtu (sends_of samples)) before runs.entries [] after unused runs.runs);
        }
