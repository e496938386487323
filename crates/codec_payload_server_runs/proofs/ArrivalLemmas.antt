-- A datagram that comes to the session of a media server, from the calls that the step makes.
use Rattle.std.proofs.Common.{◌≡◌, ap, subst, List, ℕ, [], ◌∷◌, ◌++◌, Bool, false, Result, Ok, Err}
use Rattle.std.specs.Prelude.{OnOk, is_err}
use Rattle.std.specs.declared.alloc.AllocError.{AllocError}
use Rattle.codec_payload_sending_history.specs.declared.original.OriginalStream.{OriginalStream}
use Rattle.codec_payload_session.specs.Accepting.{Accepts, time_for}
use Rattle.codec_payload_session_stream.specs.declared.arrival.Arrival.{Arrival}
use Rattle.codec_payload_session_runs.specs.declared.run.StepAnswer.{StepAnswer}
use Rattle.codec_payload_session_runs.specs.declared.run.StepAnswer.TheVariants as answers
use Rattle.codec_payload_forward_runs.specs.ForwardRuns.{Hops}
use Rattle.codec_payload_server_runs.specs.ServeRuns.{Arrives, DoesIf, Served, is_taken_as}
use Rattle.codec_payload_server_runs.specs.declared.run.Moment.{Moment}

pub arrives_by : (stream : OriginalStream) (at : Moment) (datagram : List ℕ) (P : Hops → Hops → Type 0) (s t : Served) (taken : Bool) (arrival : Result Arrival AllocError)
    → Accepts (time_for at.micros at.now s.server) at.now datagram s.server arrival t.server → taken ≡ is_taken_as stream arrival → t.answers ≡ s.answers ++ answers.Received arrival ∷ []
    → DoesIf taken P s.hops t.hops → Arrives stream at datagram P s t
arrives_by stream at datagram P s t taken arrival accepts same told does = record {
  arrival = arrival;
  server = t.server;
  accepts = accepts;
  hops = t.hops;
  passes = subst (λ (b : Bool). DoesIf b P s.hops t.hops) same does;
  left = ap (λ (rs : List StepAnswer). record { hops = t.hops; server = t.server; answers = rs }) told;
}

-- what a call that was no error states
pub no_error : {X Y P : Type 0} (r : Result X Y) → is_err r ≡ false → OnOk r P → P
no_error (Ok x) none p = p
no_error (Err y) none p = absurd (cc)
