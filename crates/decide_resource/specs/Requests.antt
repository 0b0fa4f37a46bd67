-- A request, as contracts see it.
use Rattle.std.specs.Prelude.{ℕ, List, [], ◌∷◌, Option, bytes_eq, codes, option_copied, option_map, if◌then◌else◌}
use Rattle.{std.specs.List.list_any, headers.specs.{LineMap.{LineMap, lines_at, remove}, Lines.Line}}
use Rattle.gateway_messages.specs.declared.protocol.Protocol.{Protocol}
use Rattle.decide_resource.specs.declared.{denied.Denied.Denied, request.RequestContent.RequestContent}
use Rattle.decide_resource.specs.declared.request.ResourceRequest.{ResourceRequest}

-- The authority is that of a target in absolute-form. The server may say why it denies the request.
pub record Request : Type 0 where
  pub protocol : Protocol
  pub method : List ℕ
  pub authority : Option Line
  pub content : RequestContent
  pub fields : LineMap
  pub denied : Option Denied

abbrev pub request_of : ResourceRequest → Request
request_of head =
    record {
      protocol = head.protocol;
      method = head.method.now;
      authority = option_map (λ value. value.now.bytes) head.authority;
      content = head.content;
      fields = lines_at head.fields.now;
      denied = option_copied head.denied;
    }

-- a HEAD with these fields
abbrev pub head_of : Request → Request
head_of request =
    record {
      protocol = request.protocol;
      method = codes "HEAD";
      authority = request.authority;
      content = request.content;
      fields = request.fields;
      denied = request.denied;
    }

-- a GET with these fields, but for Range, which is for GET alone (section 14.2)
abbrev pub get_of : Request → Request
get_of request =
    record {
      protocol = request.protocol;
      method = codes "GET";
      authority = request.authority;
      content = request.content;
      fields = remove request.fields (codes "range");
      denied = request.denied;
    }

-- the fields that make a request conditional (section 13.1)
abbrev pub conditional_names : List (List ℕ)
conditional_names =
    codes "if-match" ∷ codes "if-none-match" ∷ codes "if-modified-since" ∷ codes "if-unmodified-since" ∷ []

-- the request without its conditions
abbrev pub unconditional : Request → Request
unconditional request =
    record {
      protocol = request.protocol;
      method = request.method;
      authority = request.authority;
      content = request.content;
      fields = λ name. if list_any (bytes_eq name) conditional_names then [] else request.fields name;
      denied = request.denied;
    }
