-- The server that a URI, options and libpq's variables mean.
--     said      the text of a part of the URI, else of an option that was given, else of a variable that is set
--     named_user      who logs in, if anybody is named
--     IsMeant      each part of the server is what is meant by it
use Rattle.std.specs.Prelude.{◌≡◌, ℕ, true, false, List, Option, Some, String, codes, option_map, unwrap_or}
use Rattle.std.specs.Option.{option_or}
use Rattle.std.specs.String.{string_bytes}
use Rattle.server.specs.declared.auth.Ways.{Ways}
use Rattle.server.specs.declared.host.Server.{Server}
use Rattle.publisher_command.specs.declared.command_line.Options.{Options}
use Rattle.publisher_command.specs.declared.variables.Variables.{Variables}

-- the text of an owned one
abbrev pub text_of : {A : Type 0} → Option (String A) → Option (List ℕ)
text_of text = option_map (λ t. string_bytes t) text

-- the text of a part of the URI, else of an option that was given, else of a variable that is set
abbrev pub said : {A : Type 0} → Option (String A) → Option (List ℕ) → Option (String A) → Option (List ℕ)
said uri given set = option_or (option_or (text_of uri) given) (text_of set)

-- every way to authenticate
abbrev pub all_ways : Ways
all_ways = record { none = true; password = true; md5 = true; scram = true }

-- Who logs in: the user of the URI, else of the option, else of PGUSER, else whoever is logged in here.
abbrev pub named_user : Options → Variables → Option (List ℕ)
named_user o v = option_or (said o.uri.user (option_map (λ t. t.now) o.user) v.parts.user) (text_of v.login)

-- Each part of the server is what is meant by it, as libpq has it; the database is that of the user's name where none is named.
pub record IsMeant (o : Options) (v : Variables) (s : Server) : Type 0 where
  pub user : named_user o v ≡ Some (string_bytes s.user)
  pub host : string_bytes s.host ≡ unwrap_or (said o.uri.host (option_map (λ t. t.now) o.host) v.parts.host) (codes "/var/run/postgresql")
  pub port : string_bytes s.port ≡ unwrap_or (said o.uri.port (option_map (λ t. t.now) o.port) v.parts.port) (codes "5432")
  pub database : string_bytes s.database ≡ unwrap_or (said o.uri.database (option_map (λ t. t.now) o.database) v.parts.database) (string_bytes s.user)
  pub password : option_map (λ p. string_bytes p.text) s.password ≡ option_map (λ p. string_bytes p.text) v.password
  pub limit : s.limit ≡ o.limit
  pub ways : s.ways ≡ unwrap_or (option_or (option_or o.uri.ways o.ways) v.parts.ways) all_ways
  pub clear_text : s.clear_text ≡ o.clear_text
  pub tls : s.tls ≡ unwrap_or (option_or o.uri.tls v.parts.tls) false
