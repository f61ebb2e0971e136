-- Laws of a site's record and memory, and of all sites' together.
pub mod ValueLaws
pub mod ConsistencyLaws
pub mod ReadyLaws
pub mod SiteMemoryLaws
pub mod SitePart
pub mod OneSite
pub mod SitesMemoryLaws
pub mod SitesReading
pub mod SitesFronts
