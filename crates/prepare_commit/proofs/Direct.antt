-- What a cell's calls to the chains of its items give: of the chains as lists.
use Rattle.std.proofs.Common.{◌≡◌, ◌≢◌, ℕ, ◌<◌, List, All, Option, length, sym, subst}
use Rattle.stamps.specs.Record.{Record}
use Rattle.version_chain.specs.declared.chains.Insert.{Insert}
use Rattle.version_chain.specs.declared.chains.Insert.TheVariants.{Added}
use Rattle.version_chain.specs.declared.version.Version.{Version}
use Rattle.version_chain.specs.Chain.{Cells, chain_versions, latest_record}
use Rattle.version_chain.specs.Changes.{ChangesChain, HasChain, InsertAnswers}
use Rattle.version_chain.specs.Heads.{Heads}
use Rattle.version_chain.specs.Listed.{Lists}
use Rattle.version_chain.specs.Sharing.{ChangesOwn}
use Rattle.version_chain.proofs.Answered.{not_added}
use Rattle.prepare_commit.specs.Content.{IsLatest}
use Rattle.prepare_commit.specs.InBlock.{AreIn}
use Rattle.prepare_commit.specs.Layout.{held_in, chain_lists, chain_at, committed_version, InsertGives, IsVersionOf}
use Rattle.prepare_commit.proofs.Chaining.{chain_is, insert_gives}
use Rattle.prepare_commit.proofs.Stamped.{latest_is}

-- a record was put into a chain, or why not
pub record Inserted (block : Cells) (heads : Heads) (chain : ℕ) (v : Record) (new_block : Cells) (new : Heads) (result : Insert) : Type 0 where
  pub gives : InsertGives result (held_in block heads) (held_in new_block new) chain v
  pub lies : AreIn new_block new
  pub own : ChangesOwn block new_block heads new
  pub not_added : result ≢ Added → new_block ≡ block

pub inserted : (block : Cells) (heads : Heads) (chain : ℕ) (v : Record) (new_block : Cells) (new : Heads) (result : Insert) → chain < length (chain_lists block heads)
    → ChangesChain block heads new_block new chain → Lists new_block new → InsertAnswers result block heads new_block new chain v → Inserted block heads chain v new_block new result
inserted block heads chain v new_block new result known changed listed answer = record {
  gives = insert_gives block heads chain known new_block new v result changed answer;
  lies = record { stands = changed.stands; listed = listed };
  own = changed.own;
  not_added = λ other. (not_added block heads new_block new chain v result answer other).0;
}

-- the latest committed record of a chain is that of its item
pub latest_in : (block : Cells) (heads : Heads) (chain : ℕ) (result : Option Record) → HasChain block heads chain → result ≡ latest_record block heads chain
    → (key : List ℕ) → All (IsVersionOf key) (chain_at (chain_lists block heads) chain) → IsLatest key (chain_at (chain_lists block heads) chain) (committed_version result)
latest_in block heads chain result has is key =
    let falls = has.stands.falling chain has.known in
    let P : List Version → Type 0 = λ vs. All (IsVersionOf key) vs → IsLatest key vs (committed_version result) in
    subst P (sym (chain_is block heads chain has.known)) (λ own.
    let Q : Option Record → Type 0 = λ o. IsLatest key (chain_versions block heads chain) (committed_version o) in
    subst Q (sym is) (latest_is key (chain_versions block heads chain) falls own))
