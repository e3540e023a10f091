use Rattle.std.proofs.Common.{rules, arith, ap, sym, ◌∙◌, ◌≡◌, ◌++◌, map, length, Some, None}
use Rattle.std.specs.Prelude.{find}
use Rattle.std.specs.List.{filter}
use Rattle.lgm_save.specs.Records.{ban_record}
use Rattle.lgm_save.specs.inner.Pushing.{is_behind}
use Rattle.lgm_save.proofs.PushLaws.{bans_all, behind_more, none_behind, next_is, pushed, ban_pushed, bans_whole}
use Rattle.lgm_save.proofs.records.push_bans.Goals as goal

pub bans-init : goal.bans-init
bans-init c = record {
  items = ap (λ ps. c.args.records.now.items ++ map ban_record ps) (bans_all c.args.map.now.banned);
  lawful = λ all. all;
}

pub bans-smaller : goal.bans-smaller
bans-smaller c =
    let found : find (is_behind c.bans.after) c.args.map.now.banned ≡ Some c.in-Some.point = sym (next_is c.bans.after c.args.map.now.banned) ∙ sym c.next_banned.ensures ∙ c.in-Some.is in
    let more = behind_more c.bans.after c.args.map.now.banned c.in-Some.point c.rows_are_lawful.ensures.ascend.banned found in
    omega (arith, ap length more)

pub bans-preserved : goal.bans-preserved
bans-preserved c =
    let found : find (is_behind c.bans.after) c.args.map.now.banned ≡ Some c.in-Some.point = sym (next_is c.bans.after c.args.map.now.banned) ∙ sym c.next_banned.ensures ∙ c.in-Some.is in
    let more = behind_more c.bans.after c.args.map.now.banned c.in-Some.point c.rows_are_lawful.ensures.ascend.banned found in
    let one = pushed c.bans.records.items c.push.new.self.items (ban_record c.in-Some.point) (search rules) (search rules) in
    record {
      items = ban_pushed c.bans.records.items c.push.new.self.items c.in-Some.point (filter (is_behind c.bans.after) c.args.map.now.banned) _ one.items more ∙ c.bans.invariant.items;
      lawful = λ all. one.lawful (c.bans.invariant.lawful all);
    }

pub returns : goal.returns
returns c =
    let none : find (is_behind c.bans.after) c.args.map.now.banned ≡ None = sym (next_is c.bans.after c.args.map.now.banned) ∙ sym c.next_banned.ensures ∙ c.in_default.is in
    record {
      items = sym (bans_whole c.bans.records.items (filter (is_behind c.bans.after) c.args.map.now.banned) (none_behind c.bans.after c.args.map.now.banned none)) ∙ c.bans.invariant.items;
      lawful = c.bans.invariant.lawful;
    }
