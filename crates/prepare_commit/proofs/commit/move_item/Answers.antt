use Rattle.std.proofs.Common.{◌≡◌, ℕ, refl, Bool, true, false, cond, ◌&&◌, not, List, [], ◌∷◌, length, bytes_eq, Option, Some, None, IfSome, is_some, sym, ap, ◌∙◌, arith}
use Rattle.std.proofs.lemmas.Bool.{both_ways}
use Rattle.std.specs.FinMap as fin
use Rattle.secondary_index.specs.Index.{Tags, with_tag}
use Rattle.secondary_index.proofs.Findings.{insert-same}
use Rattle.prepare_commit.proofs.commit.move_item.Goals as goal

has_none : (own : Option (List ℕ)) → is_some own ≡ true → IfSome own (λ tag. tag ≡ []) → own ≡ Some []
has_none (Some tag) known none = ap Some none
has_none None known none = absurd (both_ways false refl known)

-- where no key has a tag, one that gets none changes nothing
untagged : (tags : Tags) (key tag : List ℕ) → IfSome (fin.get tags key) (λ own. own ≡ []) → length tag ≡ 0 → with_tag tags key tag ≡ tags
untagged tags key (x ∷ rest) none empty = absurd (omega (arith, empty))
untagged tags key [] none empty = by (fin.contains_key tags key) refl
  where
    by : (b : Bool) → fin.contains_key tags key ≡ b → cond (bytes_eq [] [] && not b) tags (fin.insert tags key []) ≡ tags
    by true known = insert-same tags key [] (has_none (fin.get tags key) known none)
    by false known = refl

pub returns-then-tag_len-eq0 : goal.returns-then-tag_len-eq0
returns-then-tag_len-eq0 c i =
    let latest = c.args.latest.now in
    record {
      room = c.args.index.now.room;
      tags = sym (untagged c.args.index.now.tags latest.key latest.tag (c.has_tags.ensures c.if-not-has_tags.true latest.key) (sym c.tag_len.ensures ∙ c.if-tag_len-eq0.true)) i;
    }
