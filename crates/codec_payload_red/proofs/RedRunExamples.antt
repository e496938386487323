-- Recovery, worked: four packets of 960 ticks each, whose RTP times wrap at 2^32, from a sender with the distances 1 and 3.
use Rattle.std.proofs.Common.{ℕ, List, [], ◌∷◌, refl, arith}
use Rattle.codec_payload_red.specs.RedLevels.{Entry, Sender, levels, within}
use Rattle.codec_payload_red.specs.RedRecovery.{Receiver}
use Rattle.codec_payload_red.specs.RedRun.{IsRecoverable, IsKeptIn}

abbrev sender : Sender
sender = record { red_pt = 63; primary_pt = 111; distances = 1 ∷ 3 ∷ []; history = [] }

abbrev receiver : Receiver
receiver = record { primary_pt = 111; step = 960 }

abbrev entry_of : ℕ → ℕ → Entry
entry_of byte time = record { bytes = byte ∷ []; time = time }

abbrev sent : List Entry
sent = entry_of 0 4294966000 ∷ entry_of 1 4294966960 ∷ entry_of 2 624 ∷ entry_of 3 1584 ∷ []

-- the conditions of recovery can be met
pub sent_is_recoverable : IsRecoverable sender receiver 1200 sent
sent_is_recoverable = record {
  fresh = refl;
  accepted = refl;
  same_type = refl;
  some_step = omega arith;
  low_step = omega arith;
  first_time = 4294966000;
  low_time = omega arith;
  apart = (refl, (refl, (refl, (refl, tt))));
  each_fits = (omega arith, (omega arith, (omega arith, (omega arith, tt))));
}

-- and the first payload is in a kept level of the fourth packet
pub first_stands_in_fourth : IsKeptIn sender 1200 sent 0 3
unfolding levels within
first_stands_in_fourth = record {
  distance = 3;
  of_sender = (1, omega arith, refl);
  back = refl;
  block = record { pt = 111; offset = 2880; bytes = 0 ∷ [] };
  entry = entry_of 3 1584;
  there = refl;
  is_level = refl;
  is_kept = (1, omega arith, refl);
}
