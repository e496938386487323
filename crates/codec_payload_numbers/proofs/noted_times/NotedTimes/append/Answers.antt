use Rattle.std.proofs.Common.{◌≡◌, ◌∙◌, ◌-◌, ap, arith, length, Some, ℕ}
use Rattle.codec_payload_numbers.specs.NotedTimes.{Noted}
use Rattle.codec_payload_numbers.proofs.NotedLemmas.{finds_room, length_gone_on, length_pushed}
use Rattle.codec_payload_numbers.proofs.noted_times.NotedTimes.append.Goals as goal

pub push-requires-clause-room : goal.push-requires-clause-room
push-requires-clause-room c =
    let s : Noted = record { backward = c.self.inside.backward; first = c.self.inside.first; times = c.self.inside.times.items; former = c.self.inside.former } in
    let held : c.len.result ≡ length s.times = c.len.ensures ∙ c.self.inside.times.ok.0 in
    let needs = rw (← c.self.view_is) at c.requires in
    let items = rw held at c.skip.ensures.items in
    rw items (omega (arith, needs.room, c.skip.ensures.capacity, finds_room c.args.index c.args.most s needs.some needs.after))

pub overflow_sub-self-2 : goal.overflow_sub-self-2
overflow_sub-self-2 c =
    let s : Noted = record { backward = c.self.inside.backward; first = c.self.inside.first; times = c.self.inside.times.items; former = c.self.inside.former } in
    let needs = rw (← c.self.view_is) at c.requires in
    let gap : ℕ = c.args.index - c.self.inside.first - c.len.result in
    omega (
      arith,
      needs.after,
      c.len.ensures,
      c.self.inside.times.ok.0,
      c.len-2.ensures,
      c.push.new.times.ok.0,
      ap length c.push.ensures.items,
      ap length c.skip.ensures.items,
      length_pushed c.args.most (Some c.args.time) c.skip.new.times.items,
      length_gone_on c.args.most gap s.times,
    )
