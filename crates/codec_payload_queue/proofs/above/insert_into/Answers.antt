use Rattle.std.proofs.Common.{◌≡◌, ◌<◌, ◌≤◌, ◌+◌, ◌++◌, inl, inr, ap, length, arith, length-append}
use Rattle.std.specs.VecDeque.{deque_len, deque_capacity}
use Rattle.std.proofs.lemmas.Bool.{cases_lt}
use Rattle.codec_payload_queue.specs.Tiers.{in_tiers, room_above, room_at_end}
use Rattle.codec_payload_queue.proofs.TierLemmas.{length_most, one_more_above, room_with_tiers, room_when_full, spare_stays}
use Rattle.codec_payload_queue.proofs.above.insert_into.Given.{Over}
use Rattle.codec_payload_queue.proofs.above.insert_into.Goals.{After-put_far}
use Rattle.codec_payload_queue.proofs.above.insert_into.Goals as goal

-- the place is within the items
place_within : (g : Over) (c : After-put_far g) → c.args.place ≤ deque_len c.args.first.now + length (in_tiers c.args.above.now.tiers.items)
place_within g c = omega (arith, c.requires.place, length-append c.args.first.now.items (in_tiers c.args.above.now.tiers.items), c.args.first.now.ok.0)

-- without another tier, the first one is full
full_alone : (g : Over) (c : After-put_far g) → length c.args.above.now.tiers.items ≤ 0 → 1024 ≤ deque_len c.args.first.now
full_alone g c none =
    let few = length_most 1 c.args.above.now.tiers.items c.requires.tiered.tiers in
    elim (cases_lt (deque_len c.args.first.now) 1024) [
      | inl part ↦ absurd (omega (arith, c.requires.far part, place_within g c, few, none))
      | inr full ↦ omega (arith, full)
    ]

some_tiers : (g : Over) (c : After-put_far g) → 0 < length c.open_tier.new.tiers.items
some_tiers g c = omega (arith, c.open_tier.ensures.place)

same_tiers : (g : Over) (c : After-put_far g) → length c.put_far.new.tiers.items ≡ length c.open_tier.new.tiers.items
same_tiers g c = omega (arith, c.put_far.ensures.len, c.put_far.new.tiers.ok.0, c.open_tier.new.tiers.ok.0)

one_more : (g : Over) (c : After-put_far g) → length (in_tiers c.put_far.new.tiers.items) ≡ length (in_tiers c.args.above.now.tiers.items) + 1
one_more g c =
    let xs = c.args.first.now.items in
    let ys = in_tiers c.open_tier.new.tiers.items in
    let same : length ys ≡ length (in_tiers c.args.above.now.tiers.items) = ap length c.open_tier.ensures.items in
    let within : c.args.place ≤ length (xs ++ ys) = omega (arith, place_within g c, same, length-append xs ys, c.args.first.now.ok.0) in
    let more = one_more_above xs c.put_far.new.first.items ys (in_tiers c.put_far.new.tiers.items) c.args.place c.args.item c.put_far.ensures.items within
    (omega (arith, c.put_far.ensures.first_len, c.put_far.new.first.ok.0, c.args.first.now.ok.0)) in
    omega (arith, more, same)

wide : (g : Over) (c : After-put_far g) → 1024 ≤ deque_capacity c.put_far.new.first
wide g c = elim (cases_lt 0 (length c.args.above.now.tiers.items)) [
  | inl some ↦ omega (arith, c.requires.tiered.wide some, c.put_far.ensures.first_capacity)
  | inr none ↦ omega (arith, c.requires.tiered.ready (c.open_tier.ensures.wide (omega (arith, none, some_tiers g c))), c.put_far.ensures.first_capacity)
]

not_empty : (g : Over) (c : After-put_far g) → 0 < deque_len c.put_far.new.first
not_empty g c = elim (cases_lt 0 (length c.args.above.now.tiers.items)) [
  | inl some ↦ omega (arith, c.requires.tiered.some some, c.put_far.ensures.first_len)
  | inr none ↦ omega (arith, full_alone g c none, c.put_far.ensures.first_len)
]

pub returns-clause-tiered : goal.returns-clause-tiered
returns-clause-tiered g c = record {
  counted = omega (arith, one_more g c, c.requires.tiered.counted);
  few = omega (arith, c.requires.tiered.few, c.put_far.ensures.first_len);
  fits = omega (
    arith,
    c.requires.few,
    length-append c.args.first.now.items (in_tiers c.args.above.now.tiers.items),
    one_more g c,
    c.put_far.ensures.first_len,
    c.put_far.new.first.ok.0,
    c.args.first.now.ok.0,
  );
  some = λ l. not_empty g c;
  wide = λ l. wide g c;
  ready = λ l. wide g c;
  tiers = c.put_far.ensures.tiers;
  next = spare_stays c.open_tier.new.tiers c.put_far.new.tiers c.open_tier.new.spare c.put_far.ensures.len c.put_far.ensures.capacity c.open_tier.ensures.spare;
}

pub returns-clause-room : goal.returns-clause-room
returns-clause-room g c =
    let first = c.args.first.now in
    let ts = c.args.above.now.tiers.items in
    let before : room_at_end first ts ≡ room_above ts = elim (cases_lt 0 (length ts)) [
      | inl some ↦ room_with_tiers first ts some
      | inr none ↦ room_when_full first ts (full_alone g c none)
    ] in
    let after = room_with_tiers c.put_far.new.first c.put_far.new.tiers.items (omega (arith, some_tiers g c, same_tiers g c)) in
    let same : length (in_tiers c.open_tier.new.tiers.items) ≡ length (in_tiers ts) = ap length c.open_tier.ensures.items in
    omega (arith, before, after, same, one_more g c, same_tiers g c, c.open_tier.ensures.room, c.open_tier.ensures.place)
