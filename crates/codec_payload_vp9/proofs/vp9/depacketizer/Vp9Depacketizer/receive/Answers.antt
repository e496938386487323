use Rattle.std.proofs.Common.{rules, ◌≡◌, ◌∙◌, ap, sym, refl, subst, ◌<◌, ◌∷◌, ℕ, length, Err, Ok}
use Rattle.std.proofs.lemmas.Result.{err_from_is_err_and}
use Rattle.codec_payload_vp9.proofs.GroupLemmas.{begins_either, same_on}
use Rattle.codec_payload_vp9.proofs.PayloadStepLemmas.{appended, lacks_memory, misplaced, refused, short, wanting}
use Rattle.codec_payload_vp9.specs.Vp9Fields.{fields_of}
use Rattle.codec_payload_vp9.specs.Vp9Reading.{all_groups, group_count, groups_at, groups_from, groups_of, is_no_memory, read_all}
use Rattle.codec_payload_vp9.specs.Vp9Received.{is_misplaced, told_before}
use Rattle.codec_payload_vp9.proofs.vp9.depacketizer.Vp9Depacketizer.receive.Goals as goal

pub returns-in_err-groups : goal.returns-in_err-groups
returns-in_err-groups c =
    let packet : c.args.packet.now ≡ c.in-Some.field-0-0.now ∷ c.in-Some.bytes.now = search rules in
    let exit = err_from_is_err_and c.from_residual.result c.from_residual.ensures.1 in
    rw (packet, exit.1, exit.2)
    (refused (fields_of c.args.self.now) (fields_of c.note_flags.new.self)
    (fields_of c.read_fields.new.self) c.in-Some.field-0-0.now c.in-Some.bytes.now c.args.out.now.items c.args.codec_extra.now c.note_flags.ensures c.in_err-groups.ensures.kept
    c.in_err-groups.field-0.0 _ (sym c.in_err-groups.ensures.rest) c.in_err-groups.ensures.groups)

pub returns-in_err-rest : goal.returns-in_err-rest
returns-in_err-rest c =
    let packet : c.args.packet.now ≡ c.in-Some.field-0-0.now ∷ c.in-Some.bytes.now = search rules in
    let exit = err_from_is_err_and c.from_residual-in_err-rest.result c.from_residual-in_err-rest.ensures.1 in
    let start = fields_of c.note_flags.new.self in
    let mid = fields_of c.read_fields.new.self in
    let after = fields_of c.read_groups-taken.new.self in
    let bytes = c.in-Some.bytes.now in
    let behind = c.in_ok-groups.groups.now in
    let here = groups_at c.group_count-count.result (groups_of mid) behind in
    let read : (read_all start bytes).rest ≡ Ok behind = sym c.in_ok-groups.ensures.rest in
    let counted : here ≡ groups_at (group_count mid) (groups_of mid) behind = ap (λ (n : ℕ). groups_at n (groups_of mid) behind) c.group_count-count.ensures in
    let all : all_groups start bytes ≡ here = c.in_ok-groups.ensures.groups ∙ ap (λ r. groups_from (groups_of mid) r (groups_at (group_count mid))) read ∙ sym counted in
    let kept = same_on after mid (read_all start bytes).fields c.read_groups-taken.ensures.kept c.in_ok-groups.ensures.kept in
    let begins = begins_either (is_no_memory c.read_groups-taken.result) c.read_groups-taken.result
    (groups_of after) here.groups refl c.read_groups-taken.ensures.groups c.read_groups-taken.ensures.no_memory in
    rw (packet, exit.1, exit.2)
    (short (fields_of c.args.self.now) start after c.in-Some.field-0-0.now bytes c.args.out.now.items c.args.codec_extra.now c.note_flags.ensures kept here all behind read begins
    c.in_err-rest.field-0.0 (sym (c.in_err-rest.ensures (groups_of mid))))

pub returns-then-is_misplaced : goal.returns-then-is_misplaced
returns-then-is_misplaced c =
    let packet : c.args.packet.now ≡ c.in-Some.field-0-0.now ∷ c.in-Some.bytes.now = search rules in
    let size : length c.args.out.now.items ≡ c.len.result = search rules in
    let start = fields_of c.note_flags.new.self in
    let mid = fields_of c.read_fields.new.self in
    let after = fields_of c.read_groups-taken.new.self in
    let bytes = c.in-Some.bytes.now in
    let behind = c.in_ok-groups.groups.now in
    let here = groups_at c.group_count-count.result (groups_of mid) behind in
    let read : (read_all start bytes).rest ≡ Ok behind = sym c.in_ok-groups.ensures.rest in
    let counted : here ≡ groups_at (group_count mid) (groups_of mid) behind = ap (λ (n : ℕ). groups_at n (groups_of mid) behind) c.group_count-count.ensures in
    let all : all_groups start bytes ≡ here = c.in_ok-groups.ensures.groups ∙ ap (λ r. groups_from (groups_of mid) r (groups_at (group_count mid))) read ∙ sym counted in
    let kept = same_on after mid (read_all start bytes).fields c.read_groups-taken.ensures.kept c.in_ok-groups.ensures.kept in
    let begins = begins_either (is_no_memory c.read_groups-taken.result) c.read_groups-taken.result
    (groups_of after) here.groups refl c.read_groups-taken.ensures.groups c.read_groups-taken.ensures.no_memory in
    rw (packet)
    (misplaced (fields_of c.args.self.now) start after c.in-Some.field-0-0.now bytes c.args.out.now.items c.args.codec_extra.now c.note_flags.ensures kept here all behind read begins
    c.in_ok-rest.rest.now (sym (c.in_ok-rest.ensures (groups_of mid))) (ap (λ (n : ℕ). is_misplaced after n (told_before c.args.codec_extra.now)) size ∙ sym c.if-is_misplaced.ensures))

pub returns-in_err-taken : goal.returns-in_err-taken
returns-in_err-taken c =
    let packet : c.args.packet.now ≡ c.in-Some.field-0-0.now ∷ c.in-Some.bytes.now = search rules in
    let exit = err_from_is_err_and c.from_residual-in_err-taken.result c.from_residual-in_err-taken.ensures.1 in
    let size : length c.args.out.now.items ≡ c.len.result = search rules in
    let start = fields_of c.note_flags.new.self in
    let mid = fields_of c.read_fields.new.self in
    let after = fields_of c.read_groups-taken.new.self in
    let bytes = c.in-Some.bytes.now in
    let behind = c.in_ok-groups.groups.now in
    let here = groups_at c.group_count-count.result (groups_of mid) behind in
    let read : (read_all start bytes).rest ≡ Ok behind = sym c.in_ok-groups.ensures.rest in
    let counted : here ≡ groups_at (group_count mid) (groups_of mid) behind = ap (λ (n : ℕ). groups_at n (groups_of mid) behind) c.group_count-count.ensures in
    let all : all_groups start bytes ≡ here = c.in_ok-groups.ensures.groups ∙ ap (λ r. groups_from (groups_of mid) r (groups_at (group_count mid))) read ∙ sym counted in
    let kept = same_on after mid (read_all start bytes).fields c.read_groups-taken.ensures.kept c.in_ok-groups.ensures.kept in
    let begins = begins_either (is_no_memory c.read_groups-taken.result) c.read_groups-taken.result
    (groups_of after) here.groups refl c.read_groups-taken.ensures.groups c.read_groups-taken.ensures.no_memory in
    rw (packet, exit.1, exit.2)
    (wanting (fields_of c.args.self.now) start after c.in-Some.field-0-0.now bytes c.args.out.now.items c.args.codec_extra.now c.note_flags.ensures kept here all behind read begins
    c.in_ok-rest.rest.now (sym (c.in_ok-rest.ensures (groups_of mid))) c.in_err-taken.field-0.0
    (ap (λ (n : ℕ). is_misplaced after n (told_before c.args.codec_extra.now)) size ∙ sym c.if-is_misplaced.ensures)
    (lacks_memory (is_no_memory {X = Unit {0}} (Err c.in_err-taken.field-0.0)) c.in_err-taken.field-0.0 here.rest c.in_ok-rest.rest.now refl
    (sym (c.in_ok-rest.ensures (groups_of mid))) c.in_err-taken.ensures.rest)
    (subst (λ (n : ℕ). 0 < n) (c.group_count-count.ensures ∙ sym (ap group_count c.read_groups-taken.ensures.kept)) c.in_err-taken.ensures.some))

pub returns : goal.returns
returns c =
    let packet : c.args.packet.now ≡ c.in-Some.field-0-0.now ∷ c.in-Some.bytes.now = search rules in
    let size : length c.args.out.now.items ≡ c.len.result = search rules in
    let start = fields_of c.note_flags.new.self in
    let mid = fields_of c.read_fields.new.self in
    let after = fields_of c.read_groups-taken.new.self in
    let bytes = c.in-Some.bytes.now in
    let behind = c.in_ok-groups.groups.now in
    let here = groups_at c.group_count-count.result (groups_of mid) behind in
    let read : (read_all start bytes).rest ≡ Ok behind = sym c.in_ok-groups.ensures.rest in
    let counted : here ≡ groups_at (group_count mid) (groups_of mid) behind = ap (λ (n : ℕ). groups_at n (groups_of mid) behind) c.group_count-count.ensures in
    let all : all_groups start bytes ≡ here = c.in_ok-groups.ensures.groups ∙ ap (λ r. groups_from (groups_of mid) r (groups_at (group_count mid))) read ∙ sym counted in
    let kept = same_on after mid (read_all start bytes).fields c.read_groups-taken.ensures.kept c.in_ok-groups.ensures.kept in
    let begins = begins_either (is_no_memory c.read_groups-taken.result) c.read_groups-taken.result
    (groups_of after) here.groups refl c.read_groups-taken.ensures.groups c.read_groups-taken.ensures.no_memory in
    rw (packet)
    (appended (fields_of c.args.self.now) start after c.in-Some.field-0-0.now bytes c.args.out.now.items c.args.codec_extra.now c.note_flags.ensures kept here all behind read begins
    c.in_ok-rest.rest.now (sym (c.in_ok-rest.ensures (groups_of mid))) c.append.result c.append.new.out.items c.append.new.codec_extra
    (ap (λ (n : ℕ). is_misplaced after n (told_before c.args.codec_extra.now)) size ∙ sym c.if-is_misplaced.ensures) (c.in_ok-taken.ensures.groups refl) c.append.ensures)
