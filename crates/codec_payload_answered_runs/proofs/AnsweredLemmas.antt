-- A history has the last datagrams, as many as its limit, so it answers requests for them.
use Rattle.std.proofs.Common.{◌≡◌, ◌∙◌, refl, sym, ap, subst, ℕ, zero, suc, ◌+◌, ◌-◌, ◌%◌, ◌<◌, ◌≤◌, ◌⊎◌, ◌||◌, not, cond, eqb, inl, inr, Bool, true, false, List, [], ◌∷◌, ◌++◌, Option, Some, None, Result, Ok, Err, MatchOption, arith, append-nil, append_assoc, length, ltb, min}
use Rattle.std.specs.Prelude.{slice_get}
use Rattle.std.proofs.lemmas.Bool.{le-ltb}
use Rattle.std.proofs.lemmas.List.{length-append, length-set, length-take}
use Rattle.std.proofs.lemmas.Option.{same_Some}
use Rattle.codec_payload_base.specs.declared.wire.Ticks.{Ticks}
use Rattle.codec_payload_payloader.specs.Sending.{Sample}
use Rattle.codec_payload_sending_history.proofs.HeldLemmas.{keeps_next}
use Rattle.codec_payload_sending_history.specs.Histories.{Resends, first_of, history_by, is_too_soon}
use Rattle.codec_payload_sending_history.specs.Packets.{Past, Sent, number_in, stream_fits}
use Rattle.codec_payload_sending_history.specs.declared.retransmission.HistoryError.TheVariants as errors
use Rattle.codec_payload_sending_history.specs.declared.retransmission.HistorySettings.{HistorySettings}
use Rattle.codec_payload_sending_history.specs.declared.retransmission.Resent.{Resent}
use Rattle.codec_payload_sending_history.specs.declared.retransmission.Resent.TheVariants as results
use Rattle.codec_payload_sending_history.specs.declared.retransmission.RetransmissionStream.{RetransmissionStream}
use Rattle.codec_payload_receiver.specs.Sessions.{Session}
use Rattle.codec_payload_datagram_runs.proofs.RepeatLemmas.{AreLatest, From, IsNewest, IsOf, advanced, follows, from_append, from_same, grows, keeps_all, new_history, new_is, newest_stays, resends_copy}
use Rattle.codec_payload_datagram_runs.specs.HistoryReleases.{latest_with, sends_by}
use Rattle.codec_payload_datagram_runs.specs.HistoryRuns.{HistoryRuns, KeepsAll, Resending, begins_with, sent_since, written}
use Rattle.codec_payload_datagram_runs.specs.WireRuns.{Delivers, DoesStep, Receipt, Wire}
use Rattle.codec_payload_datagram_runs.specs.declared.history_run.HistoryStep.{HistoryStep}
use Rattle.codec_payload_datagram_runs.specs.declared.history_run.HistoryStep.TheVariants as history_steps
use Rattle.codec_payload_datagram_runs.specs.declared.run.DatagramStep.{DatagramStep}
use Rattle.codec_payload_datagram_runs.specs.declared.run.SentSample.{SentSample}
use Rattle.codec_payload_answered_runs.specs.AnsweredRequests.{AllAnswered, RequestsAreAnswered}

from_at : (n k : ℕ) (ds : List (List ℕ)) (d : List ℕ) → From n ds → slice_get ds k ≡ Some d → number_in d ≡ Some ((n + k) % 65536)
from_at n k [] d from there = absurd (cc)
from_at n zero (e ∷ ds) d from there =
    let same : n ≡ n + zero = omega arith in
    subst (λ (m : ℕ). number_in d ≡ Some (m % 65536)) same (ap number_in (sym (same_Some e d there)) ∙ from.0)
from_at n (suc k) (e ∷ ds) d from there =
    let same : n + 1 + k ≡ n + suc k = omega arith in
    subst (λ (m : ℕ). number_in d ≡ Some (m % 65536)) same (from_at (n + 1) k ds d from.1 there)

get_within : (xs : List Sent) (k : ℕ) → k < length xs → (x : Sent) × (slice_get xs k ≡ Some x)
get_within [] k less = absurd (omega (arith, less))
get_within (x ∷ xs) zero less = (x, refl)
get_within (x ∷ xs) (suc k) less = get_within xs k (omega (arith, less))

-- the next datagram follows
comes_next : (first : ℕ) (datagrams : List (List ℕ)) (h : Past) → IsNewest first datagrams h
    → ((first + length datagrams) % 65536 ≡ (h.newest + 1) % 65536) ⊎ (h.packets ≡ [])
comes_next first [] h is = inr (is.none refl)
comes_next first (d ∷ datagrams) h is = inl (omega (arith, is.newest (length datagrams) refl))

-- the history has as many of them as its limit allows
record IsFull (limit : ℕ) (datagrams : List (List ℕ)) (h : Past) : Type 0 where
  all : length h.packets ≡ min limit (length datagrams)
  limited : h.limit ≡ limit
  any_time : h.interval ≡ 0

module _ (again : Option RetransmissionStream) (first limit : ℕ) where
  full_all : (next : ℕ) (datagrams new : List (List ℕ)) (h t : Past) → IsOf again next datagrams h → IsNewest first datagrams h → From (first + length datagrams) new → KeepsAll h new t → IsFull limit datagrams h
      → IsFull limit (datagrams ++ new) t
  full_all next datagrams [] h t of newest from keeps full = subst (IsFull limit (datagrams ++ [])) (sym keeps) (subst (λ (ds : List (List ℕ)). IsFull limit ds h) (sym (append-nil datagrams)) full)
  full_all next datagrams (d ∷ new) h t of newest from keeps full =
      let mid : Past = keeps.0 in
      let kept = keeps_next h mid d keeps.1.0 ((first + length datagrams) % 65536) newest.some of.limit newest.small from.0 (comes_next first datagrams h newest) keeps.1.1 in
      let one = keeps_all again first next datagrams (d ∷ []) h mid of newest (from.0, tt) (mid, keeps.1, refl) in
      let count : length (datagrams ++ d ∷ []) ≡ length datagrams + 1 = length-append datagrams (d ∷ []) in
      let packets : length mid.packets ≡ min h.limit (suc (length h.packets)) = ap (λ (x : Past). length x.packets) kept.1 ∙ length-take h.limit (_ ∷ h.packets) in
      let full_one : IsFull limit (datagrams ++ d ∷ []) mid = record {
        all = omega (arith, packets, count, full.all, full.limited);
        limited = ap (λ (x : Past). x.limit) kept.1 ∙ full.limited;
        any_time = ap (λ (x : Past). x.interval) kept.1 ∙ full.any_time;
      } in
      let rest : From (first + length (datagrams ++ d ∷ [])) new = subst (λ (n : ℕ). From n new) (omega (arith, count)) from.1 in
      subst (λ (ds : List (List ℕ)). IsFull limit ds t) (append_assoc datagrams (d ∷ []) new) (full_all next (datagrams ++ d ∷ []) new mid t one.0 one.1 rest keeps.2 full_one)

  never_soon : (interval : ℕ) (now : Ticks) (last : Option Ticks) → interval ≡ 0 → is_too_soon interval now last ≡ false
  never_soon interval now None none = refl
  never_soon interval now (Some last) none = ap (λ (i : ℕ). ltb (now.0 - last.0) i) none ∙ never (now.0 - last.0)
    where
      never : (n : ℕ) → ltb n 0 ≡ false
      never n = le-ltb n 0 (omega arith)

  -- a request for one of the last datagrams is answered
  is_answered : (next : ℕ) (datagrams : List (List ℕ)) (requested : ℕ) (now : Ticks) (h t : Past) (answer : Resent) (bytes : List ℕ) → From first datagrams → IsOf again next datagrams h → IsFull limit datagrams h
      → Resends now requested h [] answer bytes t → (j : ℕ) → j < length datagrams → length datagrams ≤ j + limit → requested ≡ (first + j) % 65536
      → (answer ≡ results.Written) × (latest_with first (length datagrams) requested ≡ j)
  is_answered next datagrams requested now h t answer bytes from of full resends j within near is = (by_answer answer resends, index)
    where
      index : latest_with first (length datagrams) requested ≡ j
      index = let few = of.limit in let limited = full.limited in omega (arith, within, near, is, few, limited)

      packet : (p : Sent) × (slice_get h.packets (length datagrams - 1 - j) ≡ Some p)
      packet = let all = full.all in get_within h.packets (length datagrams - 1 - j) (omega (arith, all, within, near))

      numbered : number_in packet.0.bytes ≡ Some requested
      numbered =
          let latest = of.latest (length datagrams - 1 - j) packet.0 packet.1 in
          let at : length datagrams - 1 - (length datagrams - 1 - j) ≡ j = omega (arith, within) in
          let there : slice_get datagrams j ≡ Some packet.0.bytes = subst (λ (i : ℕ). slice_get datagrams i ≡ Some packet.0.bytes) at latest.1 in
          from_at first j datagrams packet.0.bytes from there ∙ ap (λ (n : ℕ). Some n) (sym is)

      by_answer : (a : Resent) → Resends now requested h [] a bytes t → a ≡ results.Written
      by_answer results.Written resends = refl
      by_answer results.NotKept resends = absurd (resends.0 (length datagrams - 1 - j) packet.0 packet.1 numbered)
      by_answer results.TooSoon resends = absurd (clash (is_too_soon h.interval now resends.1.resent) resends.3 (never_soon h.interval now resends.1.resent full.any_time))
        where
          clash : (b : Bool) → b ≡ true → b ≡ false → ⊥
          clash b t f = cc
      by_answer results.TooLarge resends = absurd resends

  -- after a request
  full_resent : (datagrams : List (List ℕ)) (requested : ℕ) (now : Ticks) (h t : Past) (answer : Resent) (bytes : List ℕ) → IsFull limit datagrams h → Resends now requested h [] answer bytes t → IsFull limit datagrams t
  full_resent datagrams requested now h t results.Written bytes full resends = record {
    all = ap (λ (x : Past). length x.packets) resends.5 ∙ (length-set h.packets resends.0 (record resends.1 { resent = Some now }) ∙ full.all);
    limited = ap (λ (x : Past). x.limit) resends.5 ∙ full.limited;
    any_time = ap (λ (x : Past). x.interval) resends.5 ∙ full.any_time;
  }
  full_resent datagrams requested now h t results.NotKept bytes full resends = subst (IsFull limit datagrams) (sym resends.2) full
  full_resent datagrams requested now h t results.TooSoon bytes full resends = subst (IsFull limit datagrams) (sym resends.5) full
  full_resent datagrams requested now h t results.TooLarge bytes full resends = absurd resends

  -- a state of a run
  record IsAt (s : Resending) (next : ℕ) : Type 0 where
    numbers : From first s.wire.datagrams
    follows_on : s.wire.sending.stream.number % 65536 ≡ (first + length s.wire.datagrams) % 65536
    kept : IsOf again next s.wire.datagrams s.history
    newest : IsNewest first s.wire.datagrams s.history
    full : IsFull limit s.wire.datagrams s.history

  record Answers (samples : List Sample) (all_steps : List HistoryStep) (s t : Resending) : Type 0 where
    later : List SentSample
    sends : t.wire.sends ≡ s.wire.sends ++ later
    more : List Resent
    answers : t.answers ≡ s.answers ++ more
    all : AllAnswered first limit samples (length s.wire.datagrams) all_steps later more

  module _ (samples : List Sample) where
    plain_at : (step : DatagramStep) (next : ℕ) (s mid : Resending) → IsAt s next → DoesStep samples step s.wire mid.wire → KeepsAll s.history (sent_since s.wire mid.wire) mid.history → IsAt mid next
    plain_at step next s mid at does keeps =
        let g = grows samples step s.wire mid.wire does in
        let count : length mid.wire.datagrams ≡ length s.wire.datagrams + length g.new = ap length g.whole ∙ length-append s.wire.datagrams g.new in
        let from = from_same s.wire.sending.stream.number (first + length s.wire.datagrams) g.new at.follows_on g.numbers in
        let kept : KeepsAll s.history g.new mid.history = subst (λ (ds : List (List ℕ)). KeepsAll s.history ds mid.history) (new_is s.wire mid.wire g) keeps in
        let all = keeps_all again first next s.wire.datagrams g.new s.history mid.history at.kept at.newest from kept in
        record {
          numbers = subst (From first) (sym g.whole) (from_append first s.wire.datagrams g.new at.numbers from);
          follows_on = omega (arith, g.next, at.follows_on, count);
          kept = subst (λ (ds : List (List ℕ)). IsOf again next ds mid.history) (sym g.whole) all.0;
          newest = subst (λ (ds : List (List ℕ)). IsNewest first ds mid.history) (sym g.whole) all.1;
          full = subst (λ (ds : List (List ℕ)). IsFull limit ds mid.history) (sym g.whole) (full_all next s.wire.datagrams g.new s.history mid.history at.kept at.newest from kept at.full);
        }

    delivered_at : (o : Option (List ℕ)) (i : ℕ) (now : Ticks) (later : List HistoryStep) (next : ℕ) (s mid t : Resending) → IsAt s next
        → MatchOption o (mid ≡ s) (λ bytes. (receipt : Receipt) × (session : Session) × Delivers now bytes s.wire.session receipt session
        × (mid ≡ record s { wire = record s.wire { session = session; receipts = s.wire.receipts ++ receipt ∷ [] } }))
        → (IsAt mid next → Answers samples later mid t) → Answers samples (history_steps.DeliverAgain i now ∷ later) s t
    delivered_at None i now later next s mid t at same rest =
        let c : Answers samples later s t = subst (λ (x : Resending). Answers samples later x t) same (rest (subst (λ (x : Resending). IsAt x next) (sym same) at)) in
        record { later = c.later; sends = c.sends; more = c.more; answers = c.answers; all = c.all }
    delivered_at (Some bytes) i now later next s mid t at done rest =
        let after : Resending = record s { wire = record s.wire { session = done.1; receipts = s.wire.receipts ++ done.0 ∷ [] } } in
        let c : Answers samples later after t =
        subst (λ (x : Resending). Answers samples later x t) done.3
        (rest (subst (λ (x : Resending). IsAt x next) (sym done.3) (record { numbers = at.numbers; follows_on = at.follows_on; kept = at.kept; newest = at.newest; full = at.full }))) in
        record { later = c.later; sends = c.sends; more = c.more; answers = c.answers; all = c.all }

    answers_from : (all_steps : List HistoryStep) (next : ℕ) (s t : Resending) → IsAt s next → HistoryRuns samples all_steps s t → Answers samples all_steps s t
    answers_from [] next s t at run = record {
      later = [];
      sends = ap (λ (x : Resending). x.wire.sends) run ∙ sym (append-nil s.wire.sends);
      more = [];
      answers = ap (λ (x : Resending). x.answers) run ∙ sym (append-nil s.answers);
      all = tt;
    }
    answers_from (history_steps.Plain step ∷ later) next s t at run =
        let mid : Resending = run.0 in
        let does = run.1 in
        let wire : mid.wire ≡ does.0 = ap (λ (x : Resending). x.wire) does.4 in
        let history : mid.history ≡ does.1 = ap (λ (x : Resending). x.history) does.4 in
        let stepped : DoesStep samples step s.wire mid.wire = subst (DoesStep samples step s.wire) (sym wire) does.2 in
        let kept : KeepsAll s.history (sent_since s.wire mid.wire) mid.history =
        subst (λ (x : Wire). KeepsAll s.history (sent_since s.wire x) mid.history) (sym wire) (subst (KeepsAll s.history (sent_since s.wire does.0)) (sym history) does.3) in
        let c = answers_from later next mid t (plain_at step next s mid at stepped kept) run.2 in
        let f = follows samples step s.wire mid.wire c.later stepped in
        record {
          later = f.later;
          sends = c.sends ∙ f.sends;
          more = c.more;
          answers = c.answers ∙ ap (λ (x : Resending). x.answers ++ c.more) does.4;
          all = subst (λ (n : ℕ). AllAnswered first limit samples n later (sends_by samples step f.later) c.more) (sym f.sent)
              (subst (λ (es : List SentSample). AllAnswered first limit samples (length mid.wire.datagrams) later es c.more) (sym f.left) c.all);
        }
    answers_from (history_steps.Resend requested now ∷ later) next s t at run =
        let does = run.1 in
        let here = resends_copy again first next s.wire.datagrams now requested s.history does.2 does.0 does.1 at.numbers at.kept does.3 in
        let after : Resending = record s { history = does.2; retransmissions = s.retransmissions ++ written does.0 does.1; answers = s.answers ++ does.0 ∷ [] } in
        let after_at : IsAt after (advanced again next (length (written does.0 does.1))) = record {
          numbers = at.numbers;
          follows_on = at.follows_on;
          kept = here.0;
          newest = newest_stays first s.wire.datagrams now requested s.history does.2 does.0 does.1 at.newest does.3;
          full = full_resent s.wire.datagrams requested now s.history does.2 does.0 does.1 at.full does.3;
        } in
        let c : Answers samples later after t =
        subst (λ (x : Resending). Answers samples later x t) does.4
        (answers_from later (advanced again next (length (written does.0 does.1))) run.0 t (subst (λ (x : Resending). IsAt x (advanced again next (length (written does.0 does.1)))) (sym does.4) after_at) run.2) in
        record {
          later = c.later;
          sends = c.sends;
          more = does.0 ∷ c.more;
          answers = c.answers ∙ append_assoc s.answers (does.0 ∷ []) c.more;
          all = (is_answered next s.wire.datagrams requested now s.history does.2 does.0 does.1 at.numbers at.kept at.full does.3, c.all);
        }
    answers_from (history_steps.DeliverAgain i now ∷ later) next s t at run =
        delivered_at (slice_get s.retransmissions i) i now later next s run.0 t at run.1 (λ after. answers_from later next run.0 t after run.2)

not_failed : {A E : Type 0} (b : Bool) (fault : E) (r : Result A E) (y : A) → cond b (Err fault) r ≡ Ok y → (b ≡ false) × (r ≡ Ok y)
not_failed true fault r y e = absurd (cc)
not_failed false fault r y e = (refl, e)

abbrev empty_history : HistorySettings → Past
empty_history s = record { limit = s.limit; interval = s.interval; stream = s.stream; next = first_of s.stream; newest = 0; refused = None; packets = [] }

-- the settings of a new history
pub of_settings : (settings : HistorySettings) (h : Past) → history_by settings ≡ Ok h → (h.limit ≡ settings.limit) × (h.interval ≡ settings.interval)
of_settings settings h new =
    let a = not_failed (eqb settings.limit 0 || ltb 32768 settings.limit) errors.Limit _ h new in
    let b = not_failed (not (stream_fits settings.stream)) errors.PayloadType _ h a.1 in
    let is : Ok (empty_history settings) ≡ Ok h = b.1 in
    let made : empty_history settings ≡ h = cc in
    (ap (λ (x : Past). x.limit) (sym made), ap (λ (x : Past). x.interval) (sym made))

pub requests_are_answered : RequestsAreAnswered
requests_are_answered samples all_steps sender history receiver t run settings is_new any_time =
    let new = new_history settings history is_new in
    let same = of_settings settings history is_new in
    let begun : IsAt history.stream sender.stream.number settings.limit (begins_with sender history receiver) history.next = record {
      numbers = tt;
      follows_on = omega arith;
      kept = record {
        latest = subst (AreLatest []) (sym new.0) (λ place p there. absurd (cc));
        few = omega (arith, ap length new.0);
        limit = new.1;
        stream = refl;
        next = refl;
      };
      newest = record {
        none = λ e. new.0;
        newest = λ n e. absurd (omega (arith, e));
        small = omega (arith, new.3);
        some = new.2;
      };
      full = record { all = omega (arith, ap length new.0); limited = same.0; any_time = same.1 ∙ any_time };
    } in
    let c = answers_from history.stream sender.stream.number settings.limit samples all_steps history.next (begins_with sender history receiver) t begun run in
    subst (λ (as' : List Resent). AllAnswered sender.stream.number settings.limit samples 0 all_steps t.wire.sends as') (sym c.answers)
    (subst (λ (es : List SentSample). AllAnswered sender.stream.number settings.limit samples 0 all_steps es c.more) (sym c.sends) c.all)
