-- A report of a quiet stream leaves it quiet.
use Rattle.std.proofs.Common.{ℕ, zero, suc, Bool, Option, Some, None}
use Rattle.codec_payload_numbers.specs.Reports.{Reception}
use Rattle.codec_payload_receiver.specs.Sessions.{Session as Receiver}
use Rattle.codec_payload_session_stream.specs.Quiet.{AsksNothing, IsQuietUntil}
use Rattle.codec_payload_session_requests.specs.Requests.{Asking}
use Rattle.codec_payload_session_stream.specs.declared.stream.Stage.{Stage}

-- no pop and no request reads what is reported
asks_stay : (feedback : Option Asking) (now last : ℕ) (r : Receiver) (x : Reception) → AsksNothing feedback now last r → AsksNothing feedback now last (record r { reception = x })
asks_stay None now last r x asks = tt
asks_stay (Some a) now last r x asks = asks

pub quiet_stays : (until : ℕ) (work : Option ℕ) (announced : Bool) (stage : Stage) (last : ℕ) (feedback : Option Asking) (r : Receiver) (x : Reception)
    → IsQuietUntil until work announced stage last feedback r → IsQuietUntil until work announced stage last feedback (record r { reception = x })
quiet_stays zero work announced stage last feedback r x quiet = tt
quiet_stays (suc until) work announced stage last feedback r x known = record {
  work_is = known.work_is;
  quiet = λ now less. record {
    is_announced = (known.quiet now less).is_announced;
    plays = (known.quiet now less).plays;
    pops = (known.quiet now less).pops;
    asks = asks_stay feedback now last r x (known.quiet now less).asks;
  };
}
