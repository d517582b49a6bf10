-- The settled kind, by the first counting record in scan order.
--
--   Earlier         scan order: normal modules by number, each one's records by place
--   First           record k of module m is the first that counts for the normal module t, which is n
--   KindByFirst   an external module has no kind; one of known kind keeps it; of any other, the first counting record
--                   makes the kind, and with none it has no kind
use Rattle.std.specs.Prelude.{◌≡◌, ℕ, ◌<◌, ◌⊎◌, ◌≢◌}
use Rattle.source.specs.declared.ImportKind.{ImportKind}
use Rattle.source.specs.declared.ExportsKind.TheVariants.{None as Unknown}
use Rattle.source.specs.declared.Module.TheVariants.{Normal}
use Rattle.source.specs.declared.NormalModule.{NormalModule}
use Rattle.source.specs.Meaning.{Meaning, module_at}
use Rattle.marks.specs.declared.options.LinkOptions.{LinkOptions}
use Rattle.marks.specs.Kinds.{makes, settled_kind}
use Rattle.marks.specs.Records.{Points, ExternalAt}

abbrev pub Earlier : ℕ → ℕ → ℕ → ℕ → Type 0
Earlier a j m k = (a < m) ⊎ ((a ≡ m) × (j < k))

pub record First (w : Meaning) (o : LinkOptions) (n : NormalModule) (t m k : ℕ) (kind : ImportKind) : Type 0 where
  pub points : Points w m k kind t
  pub counts : makes o n kind ≡ Unknown → ⊥
  pub none_earlier : (a j : ℕ) (other : ImportKind) → Earlier a j m k → Points w a j other t → makes o n other ≡ Unknown

pub record KindByFirst : Type 0 where
  pub external : (w : Meaning) (o : LinkOptions) (t : ℕ) → ExternalAt w t → settled_kind w o t ≡ Unknown
  pub known : (w : Meaning) (o : LinkOptions) (t : ℕ) (n : NormalModule) → module_at w t ≡ Normal n → (n.scanned ≢ Unknown) → settled_kind w o t ≡ n.scanned
  pub made : (w : Meaning) (o : LinkOptions) (t : ℕ) (n : NormalModule) → module_at w t ≡ Normal n → n.scanned ≡ Unknown → (m k : ℕ) (kind : ImportKind) → First w o n t m k kind → settled_kind w o t ≡ makes o n kind
  pub unmade : (w : Meaning) (o : LinkOptions) (t : ℕ) (n : NormalModule) → module_at w t ≡ Normal n → n.scanned ≡ Unknown → ((m k : ℕ) (kind : ImportKind) → Points w m k kind t → makes o n kind ≡ Unknown) → settled_kind w o t ≡ Unknown
