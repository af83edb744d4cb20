-- What is gathered for a factor read at the point that stands at a place.
use Rattle.std.specs.Prelude.{ℕ, List, Option}
use Rattle.model.specs.Numbers.{access_zone, access_credential}
use Rattle.model.specs.Site.{records, zone_of, point_of, credential_of}
use Rattle.model.specs.State.{count, point_state_of, credential_state_of}
use Rattle.model.specs.Checks.{factor_for, credential_read}
use Rattle.model.specs.Step.{disable_of}
use Rattle.index.specs.declared.Place.{Place}
use Rattle.journal.specs.Places.{site_part, state_part, seek_place}
use Rattle.model.specs.declared.CredentialId.{CredentialId}
use Rattle.model.specs.declared.Entry.{Entry}
use Rattle.journal.specs.declared.Gathered.{Gathered}

-- The credential that the point waits for.
unfoldable pub waiting_at : Option Place → List ℕ → CredentialId
waiting_at place state = (point_state_of (state_part place state)).waiting_credential

-- The factor that is read there.
unfoldable pub factor_at : Option Place → Entry → List ℕ → List ℕ → List ℕ
factor_at place e site state = factor_for (waiting_at place state) e (records site)

-- The credential that the read is about.
unfoldable pub number_at : Option Place → Entry → List ℕ → List ℕ → CredentialId
number_at place e site state = credential_read (waiting_at place state) (factor_at place e site state)

-- Where its Zone_To stands, its Zone_From, and that credential.
unfoldable pub to_at : Option Place → List ℕ → Option Place
to_at place site = seek_place access_zone (point_of (site_part place site)).zone_to.0 site

unfoldable pub from_at : Option Place → List ℕ → Option Place
from_at place site = seek_place access_zone (point_of (site_part place site)).zone_from.0 site

unfoldable pub held_at : Option Place → Entry → List ℕ → List ℕ → Option Place
held_at place e site state = seek_place access_credential (number_at place e site state).0 site

-- All of it by value, and where its records stand.
unfoldable pub gathered : Option Place → Entry → List ℕ → List ℕ → Gathered
gathered place e site state =
    record {
      situation =
          record {
            point = point_of (site_part place site);
            point_state = point_state_of (state_part place state);
            zone_to = zone_of (site_part (to_at place site) site);
            count_to = count (state_part (to_at place site) state);
            zone_from = zone_of (site_part (from_at place site) site);
            count_from = count (state_part (from_at place site) state);
            factor_disable = disable_of (factor_at place e site state);
            number = number_at place e site state;
            credential = credential_of (site_part (held_at place e site state) site);
            credential_state = credential_state_of (state_part (held_at place e site state) state);
          };
      places =
          record {
            point = place;
            credential = held_at place e site state;
            zone_to = to_at place site;
            zone_from = from_at place site;
          };
    }

-- The count of the Zone_To of the point that stands at a place.
unfoldable pub count_to : Option Place → List ℕ → List ℕ → ℕ
count_to place site state = count (state_part (to_at place site) state)
