-- A factor as it is presented: which records fit it, and their bucket in an index.
use Rattle.std.specs.Prelude.{ℕ, List, Bool, Option, Some, None}
use Rattle.octets.specs.Octets.{field}
use Rattle.model.specs.Checks.{identifying, confirming}
use Rattle.model.specs.declared.CredentialId.{CredentialId}
use Rattle.index.specs.Index.{factor_bucket}
use Rattle.site.specs.declared.Presented.{Presented}

-- A factor record of a format and a value that confirms a credential, or identifies one.
abbrev pub fits_as : Option CredentialId → ℕ → List ℕ → List ℕ → Bool
fits_as (Some credential) form read = confirming credential form read
fits_as None form read = identifying form read

-- A factor record fits what is presented.
unfoldable pub fits : Presented → List ℕ → Bool
fits p = fits_as p.confirms p.format p.value

-- The credential by which it is looked up, where it confirms one.
abbrev pub presented_owner : Option CredentialId → ℕ
presented_owner (Some credential) = credential.0
presented_owner None = 0

-- The bucket of the factors that fit it.
unfoldable pub presented_bucket : Presented → ℕ
presented_bucket p = factor_bucket p.format (field 0 4 p.value) (field 4 4 p.value) (presented_owner p.confirms)
