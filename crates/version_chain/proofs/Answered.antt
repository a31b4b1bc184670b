-- For the callers of `Chains::insert_from` and `insert`. What an answer says, fact by fact.
use Rattle.std.proofs.Common.{◌≡◌, ◌≢◌, ℕ, false, Option, Some, None, refl, sym, ◌∙◌, arith}
use Rattle.std.specs.Prelude.{◌↔◌}
use Rattle.stamps.specs.Record.{Record}
use Rattle.version_chain.specs.declared.chains.Insert.{Insert}
use Rattle.version_chain.specs.declared.chains.Insert.TheVariants.{Added, Same, Other, Full}
use Rattle.version_chain.specs.Heads.{Heads}
use Rattle.version_chain.specs.Chain.{Cells, at_stamp, chain_versions}
use Rattle.version_chain.specs.Changes.{HaveOneMore, InsertAnswers, Unchanged}

module _ (old_cells : Cells) (old : Heads) (new_cells : Cells) (new : Heads) (chain : ℕ) (v : Record) where
  -- the record of this stamp in the chain, before
  abbrev found : Option Record
  found = at_stamp (chain_versions old_cells old chain) v.stamp

  pub added : (answer : Insert) → InsertAnswers answer old_cells old new_cells new chain v → answer ≡ Added → HaveOneMore old_cells old new_cells new chain (record { prepared = v; committed = false })
  added Added (missing, less, more) is = more
  added Same says is = absurd (let both : Same ≡ Added = is in cc)
  added Other says is = absurd (let both : Other ≡ Added = is in cc)
  added Full says is = absurd (let both : Full ≡ Added = is in cc)

  pub not_added : (answer : Insert) → InsertAnswers answer old_cells old new_cells new chain v → answer ≢ Added → Unchanged old_cells old new_cells new
  not_added Added says other = absurd (other refl)
  not_added Same (same, stays) other = stays
  not_added Other (another, is, different, stays) other = stays
  not_added Full (missing, full, stays) other = stays

  some_apart : found ≡ None → found ≡ Some v → ⊥
  some_apart missing is = absurd (let both : None ≡ Some v = sym missing ∙ is in cc)

  pub same : (answer : Insert) → InsertAnswers answer old_cells old new_cells new chain v → (answer ≡ Same) ↔ (found ≡ Some v)
  same Added (missing, less, more) = (λ is. absurd (let both : Added ≡ Same = is in cc), λ is. absurd (some_apart missing is))
  same Same (here, stays) = (λ is. here, λ is. refl)
  same Other (another, is, different, stays) = (λ e. absurd (let both : Other ≡ Same = e in cc), λ here. absurd (different (let both : Some another ≡ Some v = sym is ∙ here in cc)))
  same Full (missing, full, stays) = (λ is. absurd (let both : Full ≡ Same = is in cc), λ is. absurd (some_apart missing is))

  pub other : (answer : Insert) → InsertAnswers answer old_cells old new_cells new chain v → (answer ≡ Other) ↔ ((another : Record) × (found ≡ Some another) × (another ≢ v))
  other Added (missing, less, more) = (λ is. absurd (let both : Added ≡ Other = is in cc), λ there. absurd (let both : None ≡ Some there.0 = sym missing ∙ there.1 in cc))
  other Same (here, stays) = (λ is. absurd (let both : Same ≡ Other = is in cc), λ there. absurd (there.2 (let both : Some there.0 ≡ Some v = sym there.1 ∙ here in cc)))
  other Other (another, is, different, stays) = (λ e. (another, is, different), λ there. refl)
  other Full (missing, full, stays) = (λ is. absurd (let both : Full ≡ Other = is in cc), λ there. absurd (let both : None ≡ Some there.0 = sym missing ∙ there.1 in cc))

  pub full : (answer : Insert) → InsertAnswers answer old_cells old new_cells new chain v → (answer ≡ Full) ↔ ((found ≡ None) × (old.used ≡ old.share))
  full Added (missing, less, more) = (λ is. absurd (let both : Added ≡ Full = is in cc), λ both. absurd (omega (arith, less, both.1)))
  full Same (here, stays) = (λ is. absurd (let both : Same ≡ Full = is in cc), λ both. absurd (some_apart both.0 here))
  full Other (another, is, different, stays) = (λ e. absurd (let both : Other ≡ Full = e in cc), λ both. absurd (let none : None ≡ Some another = sym both.0 ∙ is in cc))
  full Full (missing, all, stays) = (λ is. (missing, all), λ both. refl)
